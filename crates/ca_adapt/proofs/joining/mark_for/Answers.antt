use Rattle.std.proofs.Common.{rules, [], ◌∷◌, Result, sym, refl, ap, ◌∙◌, subst, arith}
use Rattle.ca_base.specs.Counting.{losses, HasFound}
use Rattle.ca_base.specs.declared.stop.Stop.{Stop}
use Rattle.ca_node.specs.Told.{link_word}
use Rattle.ca_adapt.specs.Joins.{last_on}
use Rattle.ca_adapt.proofs.LastOn.{kept_shown}
use Rattle.ca_base.proofs.Counts.{ended_after, met_both, written_met}
use Rattle.ca_base.proofs.Tallies.{tallied_as}
use Rattle.ca_base.proofs.Unlinking.{written_row}
use Rattle.ca_node.specs.TreeView.{TreeView}
use Rattle.ca_rows.specs.declared.view.Pin.{Pin}
use Rattle.ca_base.proofs.Counts.{spent_both, none_spent}
use Rattle.ca_adapt.proofs.LoneTries.{not_lost}
use Rattle.ca_adapt.proofs.MarkedCopies.{is_join_copy, marked_copy}
use Rattle.ca_node.specs.States.{IsAlone}
use Rattle.ca_adapt.specs.Pairs.{IsThere}
use Rattle.ca_adapt.proofs.joining.mark_for.Goals as goal

pub returns-in_err-row-clause-frame : goal.returns-in_err-row-clause-frame
returns-in_err-row-clause-frame c = record {
  same = search rules;
  number = search rules;
  tally = tallied_as c.args.pass.now.tally c.take.new.pass.tally c.args.pass.now.seat.me.0.upper
      c.take.new.pass.seat.me.0.upper
      c.take.ensures.frame.tally c.take.ensures.frame.same.4;
  pin = search rules;
  own_range = ap (λ (u : TreeView). u.ranges.own) c.take.ensures.frame.same.4;
  none = c.in_err-row.ensures.taken [] (omega arith) c.requires.ready.none;
}

pub write_marked-requires-clause-row : goal.write_marked-requires-clause-row
write_marked-requires-clause-row c = let each =
    (c.in_ok-row.ensures.taken [] (omega arith) c.requires.ready.none).1.0.each c.in_ok-row.row
    (0, refl) in record {
      reading = record {
        own = (
          c.take.ensures.frame.same.0 ∙ c.requires.ready.own.0,
          c.take.ensures.frame.same.2
              ∙ c.requires.ready.own.1,
        );
        pinned = ap (λ (p : Pin). p.pinned) c.take.ensures.frame.same.3 ∙ c.requires.ready.pinned;
      };
      held = (each.1, each.2);
    }

pub put_marked-requires-clause-copy : goal.put_marked-requires-clause-copy
put_marked-requires-clause-copy c = let w = c.write_marked.ensures.written
    (last_on (link_word c.args.cursor.link) c.args.pass.now.seat.me.0.upper.notes)
    (kept_shown c.args.space.now.table.shared.key c.args.pass.now.seat.me c.take.new.pass.seat.me
    c.args.cursor.base c.take.ensures.frame.same.4
    (last_on (link_word c.args.cursor.link) c.args.pass.now.seat.me.0.upper.notes)
    c.requires.shown) in
    is_join_copy c.args.space.now.table.shared.key c.args.pass.now.seat.me
    c.write_marked.new.pass.seat.me
    c.in_ok-row.row c.args.cursor.base (link_word c.args.cursor.link) w.0 c.args.attempt
    (c.write_marked.ensures.frame.same.4 ∙
    c.take.ensures.frame.same.4) w.2.here w.1 c.requires.link
    (c.write_marked.ensures.frame.same.3 ∙ c.take.ensures.frame.same.3) c.requires.at.link
    c.requires.ready.pinned c.requires.ready.number
    c.requires.shown c.requires.settled
    c.requires.begun

pub put_marked-requires-clause-held : goal.put_marked-requires-clause-held
put_marked-requires-clause-held c = let w = c.write_marked.ensures.written
    (last_on (link_word c.args.cursor.link) c.args.pass.now.seat.me.0.upper.notes)
    (kept_shown c.args.space.now.table.shared.key c.args.pass.now.seat.me c.take.new.pass.seat.me
    c.args.cursor.base c.take.ensures.frame.same.4
    (last_on (link_word c.args.cursor.link) c.args.pass.now.seat.me.0.upper.notes)
    c.requires.shown) in
    let t = c.in_ok-row.ensures.taken [] (omega arith) c.requires.ready.none in
    written_row c.args.space.now.table.shared.key.rows c.take.new.pass.kept
    c.write_marked.new.pass.kept c.take.new.pass.seat.me c.write_marked.new.pass.seat.me
    (c.in_ok-row.row ∷ []) c.in_ok-row.row w.0 (0, refl) w.1.long w.2
    c.write_marked.ensures.frame.kept t.1

pub returns-in-Ok-clause-frame : goal.returns-in-Ok-clause-frame
returns-in-Ok-clause-frame c = record {
  same = search rules;
  number = search rules;
  tally = λ t. c.put_marked.ensures.frame.tally
      (tallied_as c.args.pass.now.tally c.write_marked.new.pass.tally
      c.args.pass.now.seat.me.0.upper
      c.write_marked.new.pass.seat.me.0.upper (c.write_marked.ensures.frame.tally
      ∙ c.take.ensures.frame.tally)
      (c.write_marked.ensures.frame.same.4 ∙ c.take.ensures.frame.same.4) t);
  pin = search rules;
  own_range = c.put_marked.ensures.frame.own_range
      ∙ ap (λ (u : TreeView). u.ranges.own) (c.write_marked.ensures.frame.same.4
      ∙ c.take.ensures.frame.same.4);
  none = c.put_marked.ensures.frame.none;
}

pub returns-in-Err-clause-frame : goal.returns-in-Err-clause-frame
returns-in-Err-clause-frame c = record {
  same = search rules;
  number = search rules;
  tally = λ t. c.put_marked.ensures.frame.tally
      (tallied_as c.args.pass.now.tally c.write_marked.new.pass.tally
      c.args.pass.now.seat.me.0.upper
      c.write_marked.new.pass.seat.me.0.upper (c.write_marked.ensures.frame.tally
      ∙ c.take.ensures.frame.tally)
      (c.write_marked.ensures.frame.same.4 ∙ c.take.ensures.frame.same.4) t);
  pin = search rules;
  own_range = c.put_marked.ensures.frame.own_range
      ∙ ap (λ (u : TreeView). u.ranges.own) (c.write_marked.ensures.frame.same.4
      ∙ c.take.ensures.frame.same.4);
  none = c.put_marked.ensures.frame.none;
}

pub returns-in-Ok-clause-marked : goal.returns-in-Ok-clause-marked
returns-in-Ok-clause-marked c = let w = c.write_marked.ensures.written
    (last_on (link_word c.args.cursor.link) c.args.pass.now.seat.me.0.upper.notes)
    (kept_shown c.args.space.now.table.shared.key c.args.pass.now.seat.me c.take.new.pass.seat.me
    c.args.cursor.base c.take.ensures.frame.same.4
    (last_on (link_word c.args.cursor.link) c.args.pass.now.seat.me.0.upper.notes)
    c.requires.shown) in
    let each = (c.in_ok-row.ensures.taken [] (omega arith) c.requires.ready.none).1.0.each
    c.in_ok-row.row (0, refl) in
    marked_copy c.args.space.now.table.shared.key c.args.pass.now.seat.me
    c.write_marked.new.pass.seat.me
    c.in_ok-row.row c.args.cursor.base (link_word c.args.cursor.link) w.0 c.args.attempt
    (c.write_marked.ensures.frame.same.4 ∙
    c.take.ensures.frame.same.4) w.2.here w.1 c.requires.link
    c.put_marked.new.pass.seat.me.0.upper c.requires.shown each.0 each.1 c.in-Ok.ensures.done

pub returns-in-Ok-clause-counted : goal.returns-in-Ok-clause-counted
returns-in-Ok-clause-counted c = let m = c.args.pass.now.seat.me in let n =
    c.take.new.pass.seat.me in let l = c.write_marked.new.pass.seat.me in
    let w = c.write_marked.ensures.written
    (last_on (link_word c.args.cursor.link) c.args.pass.now.seat.me.0.upper.notes)
    (kept_shown c.args.space.now.table.shared.key c.args.pass.now.seat.me c.take.new.pass.seat.me
    c.args.cursor.base c.take.ensures.frame.same.4
    (last_on (link_word c.args.cursor.link) c.args.pass.now.seat.me.0.upper.notes)
    c.requires.shown) in
    spent_both c.args.spent.now c.take.new.spent c.put_marked.new.spent m n
    c.put_marked.new.pass.seat.me c.take.ensures.counted
    (spent_both c.take.new.spent c.take.new.spent c.put_marked.new.spent n l
    c.put_marked.new.pass.seat.me
    (none_spent c.take.new.spent n l (ap losses w.2.only)) c.put_marked.ensures.counted)

pub returns-in-Err-clause-counted : goal.returns-in-Err-clause-counted
returns-in-Err-clause-counted c = let m = c.args.pass.now.seat.me in let n =
    c.take.new.pass.seat.me in let l = c.write_marked.new.pass.seat.me in
    let w = c.write_marked.ensures.written
    (last_on (link_word c.args.cursor.link) c.args.pass.now.seat.me.0.upper.notes)
    (kept_shown c.args.space.now.table.shared.key c.args.pass.now.seat.me c.take.new.pass.seat.me
    c.args.cursor.base c.take.ensures.frame.same.4
    (last_on (link_word c.args.cursor.link) c.args.pass.now.seat.me.0.upper.notes)
    c.requires.shown) in
    spent_both c.args.spent.now c.take.new.spent c.put_marked.new.spent m n
    c.put_marked.new.pass.seat.me c.take.ensures.counted
    (spent_both c.take.new.spent c.take.new.spent c.put_marked.new.spent n l
    c.put_marked.new.pass.seat.me
    (none_spent c.take.new.spent n l (ap losses w.2.only)) c.put_marked.ensures.counted)

pub returns-in-Ok-clause-found : goal.returns-in-Ok-clause-found
returns-in-Ok-clause-found c = let m = c.args.pass.now.seat.me in let n = c.take.new.pass.seat.me in
    let l = c.write_marked.new.pass.seat.me in
    let w = c.write_marked.ensures.written
    (last_on (link_word c.args.cursor.link) c.args.pass.now.seat.me.0.upper.notes)
    (kept_shown c.args.space.now.table.shared.key c.args.pass.now.seat.me c.take.new.pass.seat.me
    c.args.cursor.base c.take.ensures.frame.same.4
    (last_on (link_word c.args.cursor.link) c.args.pass.now.seat.me.0.upper.notes)
    c.requires.shown) in
    let had = c.in_ok-row.ensures.found in
    subst (λ (r : Result (Unit {0}) Stop). HasFound r m c.put_marked.new.pass.seat.me) c.in-Ok.is
    (ended_after c.put_marked.result m l c.put_marked.new.pass.seat.me
    (met_both 0 0 0 0 m n l had.0 (written_met c.in_ok-row.row w.0 n l w.2))
    (ap losses w.2.only ∙ had.1) c.put_marked.ensures.found)

pub returns-in-Err-clause-found : goal.returns-in-Err-clause-found
returns-in-Err-clause-found c = let m = c.args.pass.now.seat.me in let n =
    c.take.new.pass.seat.me in let l = c.write_marked.new.pass.seat.me in
    let w = c.write_marked.ensures.written
    (last_on (link_word c.args.cursor.link) c.args.pass.now.seat.me.0.upper.notes)
    (kept_shown c.args.space.now.table.shared.key c.args.pass.now.seat.me c.take.new.pass.seat.me
    c.args.cursor.base c.take.ensures.frame.same.4
    (last_on (link_word c.args.cursor.link) c.args.pass.now.seat.me.0.upper.notes)
    c.requires.shown) in
    let had = c.in_ok-row.ensures.found in
    subst (λ (r : Result (Unit {0}) Stop). HasFound r m c.put_marked.new.pass.seat.me) c.in-Err.is
    (ended_after c.put_marked.result m l c.put_marked.new.pass.seat.me
    (met_both 0 0 0 0 m n l had.0 (written_met c.in_ok-row.row w.0 n l w.2))
    (ap losses w.2.only ∙ had.1) c.put_marked.ensures.found)

pub returns-in-Err-clause-won : goal.returns-in-Err-clause-won
returns-in-Err-clause-won c alone there = let z = c.args.space.now.table.shared.key in let word =
    link_word c.args.cursor.link in
    let same = c.write_marked.ensures.frame.same.4 ∙ c.take.ensures.frame.same.4 in
    not_lost c.put_marked.result c.in-Err.why c.in-Err.is
    (c.put_marked.ensures.won (subst (λ (u : TreeView). IsAlone z u) (sym same) alone)
    (subst (λ (u : TreeView). IsThere u.inventory (last_on word u.notes)) (sym same) there))
