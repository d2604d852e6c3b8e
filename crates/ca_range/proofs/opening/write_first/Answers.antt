use Rattle.std.proofs.Common.{[], ◌∷◌, sym, refl, ap, ◌∙◌}
use Rattle.ca_base.specs.Putting.{first_note}
use Rattle.ca_base.proofs.Unlinking.{written_row}
use Rattle.ca_node.specs.Told.{MyTree}
use Rattle.ca_rows.specs.declared.view.Pin.{Pin}
use Rattle.ca_range.proofs.Copied.{shown_still}
use Rattle.ca_range.proofs.opening.write_first.Goals as goal

pub write_border-requires-clause-row : goal.write_border-requires-clause-row
write_border-requires-clause-row c = let each = c.requires.held.0.0.each c.args.rows.own.border (1, refl) in
    record { own = c.requires.reading.own; held = (each.1, each.2) }

pub write_copy-requires-clause-row : goal.write_copy-requires-clause-row
write_copy-requires-clause-row c = let each = c.requires.held.0.0.each c.args.rows.copy (0, refl) in let s = c.write_border.ensures.frame.same in
    let w = c.write_border.ensures.written in record {
      reading = record {
        own = (s.0 ∙ c.requires.reading.own.0, s.2 ∙ c.requires.reading.own.1);
        pinned = ap (λ (p : Pin). p.pinned) s.3 ∙ c.requires.reading.pinned;
      };
      held = (each.1, (each.2.0, each.2.1, w.2.others c.args.rows.copy c.requires.held.1 ∙ each.2.2));
    }

pub write_copy-requires-clause-shown : goal.write_copy-requires-clause-shown
write_copy-requires-clause-shown c = (
  first_note c.args.pass.now.seat.me.0.upper.notes,
  shown_still c.args.space.now.table.shared.key c.args.pass.now.seat.me c.write_border.new.pass.seat.me c.args.base c.write_border.ensures.frame.same.4
      c.requires.shown,
)

pub returns-clause-held : goal.returns-clause-held
returns-clause-held c = let note = first_note c.args.pass.now.seat.me.0.upper.notes in let rows = c.args.space.now.table.shared.key.rows in
    let w = c.write_border.ensures.written in
    let v = c.write_copy.ensures.written note (shown_still c.args.space.now.table.shared.key c.args.pass.now.seat.me c.write_border.new.pass.seat.me
    c.args.base c.write_border.ensures.frame.same.4 c.requires.shown) in
    written_row rows c.write_border.new.pass.kept c.write_copy.new.pass.kept c.write_border.new.pass.seat.me c.write_copy.new.pass.seat.me
    (c.args.rows.copy ∷ c.args.rows.own.border ∷ []) c.args.rows.copy v.0 (0, refl) v.1.long v.2 c.write_copy.ensures.frame.kept
    (written_row rows c.args.pass.now.kept c.write_border.new.pass.kept c.args.pass.now.seat.me c.write_border.new.pass.seat.me
    (c.args.rows.copy ∷ c.args.rows.own.border ∷ []) c.args.rows.own.border w.0 (1, refl) w.1.long w.2 c.write_border.ensures.frame.kept c.requires.held.0)

pub returns-clause-written : goal.returns-clause-written
returns-clause-written c = let note = first_note c.args.pass.now.seat.me.0.upper.notes in let w = c.write_border.ensures.written in
    let v = c.write_copy.ensures.written note (shown_still c.args.space.now.table.shared.key c.args.pass.now.seat.me c.write_border.new.pass.seat.me
    c.args.base c.write_border.ensures.frame.same.4 c.requires.shown) in record {
      copy = v.0;
      border = w.0;
      copy_held = v.2.here;
      border_held = v.2.others c.args.rows.own.border (λ e. c.requires.held.1 (sym e)) ∙ w.2.here;
      copy_spells = v.1;
      border_spells = w.1;
      only = v.2.only ∙ ap (λ (m : MyTree). (record m.0 { claims = c.write_copy.new.pass.seat.me.0.claims }, m.1)) w.2.only;
    }
