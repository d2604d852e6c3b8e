use Rattle.std.proofs.Common.{ℕ, List, length, ap, ◌∙◌, subst, arith}
use Rattle.std.proofs.lemmas.List.{take_rest}
use Rattle.ca_node.specs.Row.{front_of}
use Rattle.ca_node.specs.Told.{MyTree}
use Rattle.ca_base.specs.Prefixes.{IsTrimmed}
use Rattle.ca_base.specs.Putting.{first_note, last_words, put_in}
use Rattle.ca_base.specs.Trimming.{shifted_words}
use Rattle.ca_base.specs.Writing.{HasWritten, SpellsBase}
use Rattle.ca_base.proofs.Fronted.{last_there, prefix_long}
use Rattle.ca_base.proofs.copying.write_base_with.Goals as goal

pub write_placed-requires-clause-prefix : goal.write_placed-requires-clause-prefix
write_placed-requires-clause-prefix c =
    let note = first_note c.args.pass.now.seat.me.0.upper.notes in let shown = c.requires.shown.0 in
    let pre = c.deref.ensures.0 ∙ c.copy_prefix.ensures.prefix note (last_there _ _ _ shown) in
    let long = ap (λ (xs : List ℕ). length xs) pre
    ∙ prefix_long note.its shown.is_base.long shown.is_base.headed.short in
    let few = shown.is_base.headed.short in let within = c.trim-trimmed.ensures.shared.within in
    (omega arith, c.trim-trimmed.ensures.shift)

pub returns-clause-written : goal.returns-clause-written
returns-clause-written c =
    let note = first_note c.args.pass.now.seat.me.0.upper.notes in let shown = c.requires.shown.0 in
    let pre = c.deref.ensures.0 ∙ c.copy_prefix.ensures.prefix note (last_there _ _ _ shown) in
    let t = c.trim-trimmed.result in let key : List ℕ = c.args.placing.now.key.now in
    let front : List ℕ = t.prefix.now in let w = subst (λ (m : MyTree).
    HasWritten c.args.row (SpellsBase front (put_in (shifted_words t.shift (last_words m.0.upper))
    c.args.placing.now.place c.word_of_item.result) c.args.target.now.cursor.level
    c.args.target.now.statistic) m c.write_placed.new.pass.seat.me)
    c.copy_prefix.ensures.frame.still c.write_placed.ensures.written in (
      w.0,
      record {
        front = front;
        lead = t.shift.lead;
        bytes = t.shift.bytes;
        word = c.word_of_item.result;
        trimmed = subst (λ (p : List ℕ). IsTrimmed p key front t.shift.lead t.shift.bytes) pre
            c.trim-trimmed.ensures;
        is_row = c.word_of_item.ensures.row;
        is_head = c.word_of_item.ensures.head ∙ ap (front_of 5) (take_rest key (length front));
        spells = w.1;
      },
      w.2,
    )
