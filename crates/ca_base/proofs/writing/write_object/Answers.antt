use Rattle.std.proofs.Common.{rules, ℕ, List, set, ◌∙◌, arith, length-set, get_or-set_same}
use Rattle.ca_base.proofs.Filling.{rewritten_again}
use Rattle.ca_base.proofs.Spelling.{spells_object}
use Rattle.ca_base.proofs.writing.write_object.Goals as goal

pub write_bytes-requires-clause-row : goal.write_bytes-requires-clause-row
write_bytes-requires-clause-row c = let h = c.requires.row.held.1 in
    let its : List ℕ = set h.0 0 c.object_form-form.result in record {
      own = search rules;
      held = (
        c.requires.row.held.0,
        (
          its,
          length-set h.0 0 c.object_form-form.result ∙ h.1,
          (c.set_word.ensures.set h.0 h.2).here,
        ),
      );
    }

pub returns-clause-written : goal.returns-clause-written
returns-clause-written c = let h = c.requires.row.held.1 in
    let form : ℕ = c.object_form-form.result in
    let its : List ℕ = set h.0 0 form in
    let told = c.object_form-form.ensures in
    let one = c.set_word.ensures.set h.0 h.2 in
    let last = c.write_bytes.ensures.filled its (length-set h.0 0 form ∙ h.1) one.here in (
      last.0,
      spells_object c.args.object.now c.args.key_at c.args.key_end form h.0 its last.0 h.1
          (get_or-set_same h.0 0 form 0 (omega (arith, h.1))) (length-set h.0 0 form) told.form told.key_length
          told.key_place told.count c.requires.place.2 last.1,
      rewritten_again c.args.row its last.0 c.args.pass.now.seat.me
          c.set_word.new.pass.seat.me c.write_bytes.new.pass.seat.me one last.2,
    )
