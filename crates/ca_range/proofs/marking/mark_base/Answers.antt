use Rattle.std.proofs.Common.{rules, [], ◌∷◌, Result, Ok, Err, vec_len, refl, sym, ap, ◌∙◌, subst, arith}
use Rattle.std.proofs.lemmas.Result.{err_from_is_err_and}
use Rattle.ca_base.specs.Counting.{losses, HasFound}
use Rattle.ca_base.specs.declared.stop.Stop.{Stop}
use Rattle.ca_base.specs.Putting.{first_note}
use Rattle.ca_base.proofs.Counts.{ended_after, met_both, written_met}
use Rattle.ca_base.proofs.Tallies.{tallied_as}
use Rattle.ca_base.proofs.Unlinking.{written_row}
use Rattle.ca_node.specs.Layout.{base_form}
use Rattle.ca_node.specs.States.{IsAlone}
use Rattle.ca_node.specs.TreeView.{TreeView}
use Rattle.ca_rows.specs.declared.kept.KeptRows.{KeptRows}
use Rattle.ca_rows.specs.declared.view.Pin.{Pin}
use Rattle.ca_range.proofs.Copied.{is_copy, is_next, marked_now, shown_still}
use Rattle.ca_range.specs.Lonely.{IsThere, as_many_marked}
use Rattle.ca_range.proofs.LoneMarks.{marked_then, none_taken, takes_fewer}
use Rattle.ca_base.proofs.Spends.{on_both, on_lost, on_still}
use Rattle.ca_range.proofs.marking.mark_base.Goals as goal

pub returns-in_err-row-clause-frame : goal.returns-in_err-row-clause-frame
returns-in_err-row-clause-frame c = record {
  same = search rules;
  number = search rules;
  tally = tallied_as c.args.pass.now.tally c.take.new.pass.tally c.args.pass.now.seat.me.0.upper c.take.new.pass.seat.me.0.upper
      c.take.ensures.frame.tally c.take.ensures.frame.same.4;
  pin = search rules;
  own_range = ap (λ (u : TreeView). u.ranges.own) c.take.ensures.frame.same.4;
  none = c.in_err-row.ensures.taken [] (omega arith) c.requires.ready.none;
}

pub returns-in_err-row-clause-counted : goal.returns-in_err-row-clause-counted
returns-in_err-row-clause-counted c = on_lost c.args.spent.now c.take.new.spent c.args.pass.now.seat.me c.take.new.pass.seat.me
    (ap (λ (u : TreeView). u.turns) c.take.ensures.frame.same.4) c.take.ensures.counted

pub write_copy-requires-clause-row : goal.write_copy-requires-clause-row
write_copy-requires-clause-row c = let each = (c.in_ok-row.ensures.taken [] (omega arith) c.requires.ready.none).1.0.each c.in_ok-row.row (0, refl) in record {
  reading = record {
    own = (c.take.ensures.frame.same.0 ∙ c.requires.ready.own.0, c.take.ensures.frame.same.2 ∙ c.requires.ready.own.1);
    pinned = ap (λ (p : Pin). p.pinned) c.take.ensures.frame.same.3 ∙ c.requires.ready.pinned;
  };
  held = (each.1, each.2);
}

pub put_copy-requires-clause-copy : goal.put_copy-requires-clause-copy
put_copy-requires-clause-copy c = let w = c.write_copy.ensures.written (first_note c.args.pass.now.seat.me.0.upper.notes)
    (shown_still c.args.space.now.table.shared.key c.args.pass.now.seat.me c.take.new.pass.seat.me c.args.next.base c.take.ensures.frame.same.4
    c.requires.shown) in
    is_copy c.args.space.now.table.shared.key c.args.pass.now.seat.me c.write_copy.new.pass.seat.me
    c.in_ok-row.row c.args.next.base w.0 c.args.mark.now (c.write_copy.ensures.frame.same.4 ∙ c.take.ensures.frame.same.4) w.2.here w.1
    (c.write_copy.ensures.frame.same.3 ∙ c.take.ensures.frame.same.3) c.requires.ready.pinned c.requires.ready.number c.requires.shown c.requires.settled

pub put_copy-requires-clause-next : goal.put_copy-requires-clause-next
put_copy-requires-clause-next c = let w = c.write_copy.ensures.written (first_note c.args.pass.now.seat.me.0.upper.notes)
    (shown_still c.args.space.now.table.shared.key c.args.pass.now.seat.me c.take.new.pass.seat.me c.args.next.base c.take.ensures.frame.same.4
    c.requires.shown) in
    is_next c.args.space.now.table.shared.key c.args.pass.now.seat.me c.write_copy.new.pass.seat.me
    c.in_ok-row.row c.args.next.base w.0 c.args.mark.now (c.write_copy.ensures.frame.same.4 ∙ c.take.ensures.frame.same.4) w.2.here w.1 c.requires.next

pub put_copy-requires-clause-held : goal.put_copy-requires-clause-held
put_copy-requires-clause-held c = let w = c.write_copy.ensures.written (first_note c.args.pass.now.seat.me.0.upper.notes)
    (shown_still c.args.space.now.table.shared.key c.args.pass.now.seat.me c.take.new.pass.seat.me c.args.next.base c.take.ensures.frame.same.4
    c.requires.shown) in
    let t = c.in_ok-row.ensures.taken [] (omega arith) c.requires.ready.none in
    written_row c.args.space.now.table.shared.key.rows c.take.new.pass.kept c.write_copy.new.pass.kept c.take.new.pass.seat.me c.write_copy.new.pass.seat.me
    (c.in_ok-row.row ∷ []) c.in_ok-row.row w.0 (0, refl) w.1.long w.2 c.write_copy.ensures.frame.kept t.1

pub returns-in-Ok-clause-frame : goal.returns-in-Ok-clause-frame
returns-in-Ok-clause-frame c = record {
  same = search rules;
  number = search rules;
  tally = λ t. c.put_copy.ensures.frame.tally (tallied_as c.args.pass.now.tally c.write_copy.new.pass.tally c.args.pass.now.seat.me.0.upper
      c.write_copy.new.pass.seat.me.0.upper (c.write_copy.ensures.frame.tally ∙ c.take.ensures.frame.tally)
      (c.write_copy.ensures.frame.same.4 ∙ c.take.ensures.frame.same.4) t);
  pin = search rules;
  own_range = c.put_copy.ensures.frame.own_range ∙ ap (λ (u : TreeView). u.ranges.own) (c.write_copy.ensures.frame.same.4 ∙ c.take.ensures.frame.same.4);
  none = c.put_copy.ensures.frame.none;
}

pub returns-in-Err-clause-frame : goal.returns-in-Err-clause-frame
returns-in-Err-clause-frame c = record {
  same = search rules;
  number = search rules;
  tally = λ t. c.put_copy.ensures.frame.tally (tallied_as c.args.pass.now.tally c.write_copy.new.pass.tally c.args.pass.now.seat.me.0.upper
      c.write_copy.new.pass.seat.me.0.upper (c.write_copy.ensures.frame.tally ∙ c.take.ensures.frame.tally)
      (c.write_copy.ensures.frame.same.4 ∙ c.take.ensures.frame.same.4) t);
  pin = search rules;
  own_range = c.put_copy.ensures.frame.own_range ∙ ap (λ (u : TreeView). u.ranges.own) (c.write_copy.ensures.frame.same.4 ∙ c.take.ensures.frame.same.4);
  none = c.put_copy.ensures.frame.none;
}

pub returns-in-Ok-clause-marked : goal.returns-in-Ok-clause-marked
returns-in-Ok-clause-marked c = let w = c.write_copy.ensures.written (first_note c.args.pass.now.seat.me.0.upper.notes)
    (shown_still c.args.space.now.table.shared.key c.args.pass.now.seat.me c.take.new.pass.seat.me c.args.next.base c.take.ensures.frame.same.4
    c.requires.shown) in
    let each = (c.in_ok-row.ensures.taken [] (omega arith) c.requires.ready.none).1.0.each c.in_ok-row.row (0, refl) in
    marked_now c.args.space.now.table.shared.key c.args.pass.now.seat.me c.write_copy.new.pass.seat.me
    c.in_ok-row.row c.args.next.base w.0 c.args.mark.now (c.write_copy.ensures.frame.same.4 ∙ c.take.ensures.frame.same.4) w.2.here w.1
    c.put_copy.new.pass.seat.me.0.upper c.requires.shown each.0 each.1 c.requires.owner.0 c.requires.owner.1 c.in-Ok.ensures.done

pub returns-in-Ok-clause-counted : goal.returns-in-Ok-clause-counted
returns-in-Ok-clause-counted c = let m = c.args.pass.now.seat.me in let n = c.take.new.pass.seat.me in let l = c.write_copy.new.pass.seat.me in
    let w = c.write_copy.ensures.written (first_note c.args.pass.now.seat.me.0.upper.notes)
    (shown_still c.args.space.now.table.shared.key c.args.pass.now.seat.me c.take.new.pass.seat.me c.args.next.base c.take.ensures.frame.same.4
    c.requires.shown) in
    on_both c.args.spent.now c.take.new.spent c.put_copy.new.spent m n c.put_copy.new.pass.seat.me
    (on_lost c.args.spent.now c.take.new.spent m n (ap (λ (u : TreeView). u.turns) c.take.ensures.frame.same.4) c.take.ensures.counted)
    (on_both c.take.new.spent c.take.new.spent c.put_copy.new.spent n l c.put_copy.new.pass.seat.me
    (on_still c.take.new.spent n l (ap losses w.2.only) (ap (λ (u : TreeView). u.turns) c.write_copy.ensures.frame.same.4)) c.put_copy.ensures.counted)

pub returns-in-Err-clause-counted : goal.returns-in-Err-clause-counted
returns-in-Err-clause-counted c = let m = c.args.pass.now.seat.me in let n = c.take.new.pass.seat.me in let l = c.write_copy.new.pass.seat.me in
    let w = c.write_copy.ensures.written (first_note c.args.pass.now.seat.me.0.upper.notes)
    (shown_still c.args.space.now.table.shared.key c.args.pass.now.seat.me c.take.new.pass.seat.me c.args.next.base c.take.ensures.frame.same.4
    c.requires.shown) in
    on_both c.args.spent.now c.take.new.spent c.put_copy.new.spent m n c.put_copy.new.pass.seat.me
    (on_lost c.args.spent.now c.take.new.spent m n (ap (λ (u : TreeView). u.turns) c.take.ensures.frame.same.4) c.take.ensures.counted)
    (on_both c.take.new.spent c.take.new.spent c.put_copy.new.spent n l c.put_copy.new.pass.seat.me
    (on_still c.take.new.spent n l (ap losses w.2.only) (ap (λ (u : TreeView). u.turns) c.write_copy.ensures.frame.same.4)) c.put_copy.ensures.counted)

pub returns-in-Ok-clause-found : goal.returns-in-Ok-clause-found
returns-in-Ok-clause-found c = let m = c.args.pass.now.seat.me in let n = c.take.new.pass.seat.me in let l = c.write_copy.new.pass.seat.me in
    let w = c.write_copy.ensures.written (first_note c.args.pass.now.seat.me.0.upper.notes)
    (shown_still c.args.space.now.table.shared.key c.args.pass.now.seat.me c.take.new.pass.seat.me c.args.next.base c.take.ensures.frame.same.4
    c.requires.shown) in
    let had = c.in_ok-row.ensures.found in
    subst (λ (r : Result (Unit {0}) Stop). HasFound r m c.put_copy.new.pass.seat.me) c.in-Ok.is
    (ended_after c.put_copy.result m l c.put_copy.new.pass.seat.me (met_both 0 0 0 0 m n l had.0 (written_met c.in_ok-row.row w.0 n l w.2))
    (ap losses w.2.only ∙ had.1) c.put_copy.ensures.found)

pub returns-in-Err-clause-found : goal.returns-in-Err-clause-found
returns-in-Err-clause-found c = let m = c.args.pass.now.seat.me in let n = c.take.new.pass.seat.me in let l = c.write_copy.new.pass.seat.me in
    let w = c.write_copy.ensures.written (first_note c.args.pass.now.seat.me.0.upper.notes)
    (shown_still c.args.space.now.table.shared.key c.args.pass.now.seat.me c.take.new.pass.seat.me c.args.next.base c.take.ensures.frame.same.4
    c.requires.shown) in
    let had = c.in_ok-row.ensures.found in
    subst (λ (r : Result (Unit {0}) Stop). HasFound r m c.put_copy.new.pass.seat.me) c.in-Err.is
    (ended_after c.put_copy.result m l c.put_copy.new.pass.seat.me (met_both 0 0 0 0 m n l had.0 (written_met c.in_ok-row.row w.0 n l w.2))
    (ap losses w.2.only ∙ had.1) c.put_copy.ensures.found)

pub returns-in_err-row-clause-alone : goal.returns-in_err-row-clause-alone
returns-in_err-row-clause-alone c = λ alone there. let e = c.in_err-row.ensures in
    let p = err_from_is_err_and c.from_residual.result c.from_residual.ensures.1 in
    none_taken c.from_residual.result c.in_err-row.field-0.0 c.args.space.now.table.shared.key c.args.pass.now.seat.me.0.pin.told base_form
    c.args.pass.now.kept c.take.new.pass.kept c.args.pass.now.seat.me c.take.new.pass.seat.me (p.1 ∙ ap Err p.2) c.requires.ready.own.1
    c.args.space.now.few.0 alone e.only (e.crowded [] (omega arith) c.requires.ready.none) e.oldest

pub returns-in-Ok-clause-alone : goal.returns-in-Ok-clause-alone
returns-in-Ok-clause-alone c = λ alone there. let m = c.args.pass.now.seat.me in let n = c.take.new.pass.seat.me in
    let l = c.write_copy.new.pass.seat.me in let k = c.put_copy.new.pass.seat.me in let z = c.args.space.now.table.shared.key in
    let same = c.write_copy.ensures.frame.same.4 ∙ c.take.ensures.frame.same.4 in
    let w = c.write_copy.ensures.written (first_note m.0.upper.notes) (shown_still z m n c.args.next.base c.take.ensures.frame.same.4 c.requires.shown) in
    marked_then (Ok c.in_ok-row.row) c.put_copy.result (vec_len c.args.pass.now.kept.rows) (vec_len c.write_copy.new.pass.kept.rows)
    (vec_len c.put_copy.new.pass.kept.rows) m l k (ap as_many_marked c.in-Ok.is) (λ x e. (c.in-Ok.field-0, c.in-Ok.is))
    (λ e. absurd cc)
    (let few = takes_fewer (Ok c.in_ok-row.row) m.0.pin.told base_form c.args.pass.now.kept c.take.new.pass.kept c.in_ok-row.ensures.oldest in
    let kept = ap (λ (x : KeptRows). vec_len x.rows) c.write_copy.ensures.frame.kept in omega arith)
    (ap losses w.2.only ∙ c.in_ok-row.ensures.found.1) same
    (c.put_copy.ensures.alone (subst (λ (u : TreeView). IsAlone z u) (sym same) alone)
    (subst (λ (u : TreeView). IsThere u (first_note u.notes)) (sym same) there) refl)

pub returns-in-Err-clause-alone : goal.returns-in-Err-clause-alone
returns-in-Err-clause-alone c = λ alone there. let m = c.args.pass.now.seat.me in let n = c.take.new.pass.seat.me in
    let l = c.write_copy.new.pass.seat.me in let k = c.put_copy.new.pass.seat.me in let z = c.args.space.now.table.shared.key in
    let same = c.write_copy.ensures.frame.same.4 ∙ c.take.ensures.frame.same.4 in
    let w = c.write_copy.ensures.written (first_note m.0.upper.notes) (shown_still z m n c.args.next.base c.take.ensures.frame.same.4 c.requires.shown) in
    marked_then (Err c.in-Err.why) c.put_copy.result (vec_len c.args.pass.now.kept.rows) (vec_len c.write_copy.new.pass.kept.rows)
    (vec_len c.put_copy.new.pass.kept.rows) m l k (ap as_many_marked c.in-Err.is) (λ x e. absurd cc)
    (λ e. c.in-Err.is ∙ cc)
    (let few = takes_fewer (Ok c.in_ok-row.row) m.0.pin.told base_form c.args.pass.now.kept c.take.new.pass.kept c.in_ok-row.ensures.oldest in
    let kept = ap (λ (x : KeptRows). vec_len x.rows) c.write_copy.ensures.frame.kept in omega arith)
    (ap losses w.2.only ∙ c.in_ok-row.ensures.found.1) same
    (c.put_copy.ensures.alone (subst (λ (u : TreeView). IsAlone z u) (sym same) alone)
    (subst (λ (u : TreeView). IsThere u (first_note u.notes)) (sym same) there) refl)
