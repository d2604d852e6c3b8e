use Rattle.std.proofs.Common.{ℕ, ◌<◌, ◌≤◌, List, length, ap, ◌∙◌, subst, ⊎_elim, arith}
use Rattle.std.specs.List.{remove}
use Rattle.std.proofs.lemmas.Bool.{cases_lt}
use Rattle.std.proofs.lemmas.List.{length-map}
use Rattle.ca_node.specs.Row.{item_words, row_in}
use Rattle.ca_node.specs.Told.{MyTree}
use Rattle.ca_base.specs.Putting.{first_note, last_words}
use Rattle.ca_base.specs.Writing.{HasWritten, SpellsBase}
use Rattle.ca_base.proofs.Fronted.{last_there, prefix_long}
use Rattle.ca_base.proofs.copying.write_base_without.Goals as goal

pub write_left-requires-clause-short : goal.write_left-requires-clause-short
write_left-requires-clause-short c =
    let note = first_note c.args.pass.now.seat.me.0.upper.notes in let shown = c.requires.shown.0 in
    let few = shown.is_base.headed.short in ⊎_elim
    (λ (more : 1 < c.args.target.now.many).
    let pre = c.deref.ensures.0 ∙ c.keep_prefix.ensures.kept more note (last_there _ _ _ shown) in
    let long = ap (λ (xs : List ℕ). length xs) pre
    ∙ prefix_long note.its shown.is_base.long few in omega arith)
    (λ (one : c.args.target.now.many ≤ 1).
    let none = ap (λ (xs : List ℕ). length xs) (c.deref.ensures.0 ∙ c.keep_prefix.ensures.none one) in
    omega arith)
    (cases_lt 1 c.args.target.now.many)

pub returns-clause-written : goal.returns-clause-written
returns-clause-written c =
    let note = first_note c.args.pass.now.seat.me.0.upper.notes in let shown = c.requires.shown.0 in
    let many = c.requires.shown.1.0 in let as_many = shown.is_base.as_many in
    let long = length-map (item_words note.its) row_in in
    let w = subst (λ (m : MyTree).
    HasWritten c.args.row (SpellsBase c.deref.result.now (remove (last_words m.0.upper) c.args.at)
    c.args.target.now.cursor.level c.args.target.now.statistic) m c.write_left.new.pass.seat.me)
    c.keep_prefix.ensures.frame.still c.write_left.ensures.written in (
      w.0,
      record {
        front = c.deref.result.now;
        kept = λ more. c.deref.ensures.0
            ∙ c.keep_prefix.ensures.kept (omega arith) note (last_there _ _ _ shown);
        none = λ one. c.deref.ensures.0 ∙ c.keep_prefix.ensures.none (omega arith);
        spells = w.1;
      },
      w.2,
    )
