use Rattle.std.proofs.Common.{◌<◌, ℕ, Err, ap, sym, ◌∙◌, subst}
use Rattle.ca_node.specs.JoinSteps.{attempt_of}
use Rattle.ca_node.specs.Told.{link_word}
use Rattle.ca_node.specs.TreeView.{TreeView}
use Rattle.ca_adapt.specs.Carrying.{HasCarriedOut, outcome_of}
use Rattle.ca_adapt.specs.Joins.{last_on}
use Rattle.ca_adapt.specs.Trying.{IsLoneTry}
use Rattle.ca_adapt.specs.declared.adapted.Why.{Why}
use Rattle.ca_adapt.proofs.Carried.{concluded, left_counts, left_held, left_lost, left_own, left_pinned, left_spent, left_steps, prepared_begun}
use Rattle.ca_adapt.proofs.MarkedPairs.{marks_steps, tried_both}
use Rattle.ca_adapt.proofs.Readied.{pinned_both, reading_then}
use Rattle.ca_adapt.proofs.Securing.{hung_still, inside_by, remembered_by, securable}
use Rattle.ca_adapt.proofs.TrySteps.{steps_both}
use Rattle.ca_adapt.proofs.LoneTries.{lone_both, lone_left}
use Rattle.ca_adapt.proofs.LoneLooks.{lone_done, lone_given_up}
use Rattle.ca_node.specs.States.{IsAlone}
use Rattle.ca_adapt.proofs.carrying.carry_out.Goals as goal

pub conclude-requires-clause-reading : goal.conclude-requires-clause-reading
conclude-requires-clause-reading c = reading_then c.args.space.now c.args.pass.now
    c.prepare.new.pass
    record { own = c.requires.ready.own; pinned = c.requires.ready.pinned } c.prepare.ensures.frame

pub conclude-requires-clause-securable : goal.conclude-requires-clause-securable
conclude-requires-clause-securable c = let u = c.args.pass.now.seat.me.0.upper in let a =
    c.in-Ok.ensures.prepared in (
      a.2.0,
      a.2.1,
      securable c.args.space.now.table.shared.key c.args.pass.now.seat.me c.prepare.new.pass.seat.me
          c.args.pair
          (last_on (link_word c.args.pair.one.link) u.notes)
          (last_on (link_word c.args.pair.other.link) u.notes) c.in-Ok.copies.marked c.requires.pair
          c.requires.ready.number c.requires.own c.requires.number
          (ap (λ (w : TreeView). w.ways) a.0.only) (ap (λ (w : TreeView). w.number) a.0.only)
          (ap (λ (w : TreeView). w.ranges) a.0.only) a,
    )

pub conclude-requires-clause-hung : goal.conclude-requires-clause-hung
conclude-requires-clause-hung c = hung_still c.args.space.now.table.shared.key
    c.args.pass.now.seat.me.0.upper c.prepare.new.pass.seat.me.0.upper
    c.args.pair.attempt.route c.args.above
    (ap (λ (w : TreeView). w.ways) c.in-Ok.ensures.prepared.0.only) c.requires.hung

pub conclude-requires-clause-held : goal.conclude-requires-clause-held
conclude-requires-clause-held c = c.in-Ok.ensures.held

pub returns-in-Ok-clause-frame : goal.returns-in-Ok-clause-frame
returns-in-Ok-clause-frame c = pinned_both c.args.pass.now c.prepare.new.pass c.conclude.new.pass
    c.prepare.ensures.frame c.conclude.ensures.frame

pub returns-in-Ok-clause-steps : goal.returns-in-Ok-clause-steps
returns-in-Ok-clause-steps c = let z = c.args.space.now.table.shared.key in
    steps_both z c.args.pass.now.seat.me.0.upper c.prepare.new.pass.seat.me.0.upper
    c.conclude.new.pass.seat.me.0.upper
    (marks_steps z 2 c.args.pass.now.seat.me.0.upper c.prepare.new.pass.seat.me.0.upper
    c.in-Ok.ensures.prepared.0) c.conclude.ensures.steps

pub returns-in-Ok-clause-done : goal.returns-in-Ok-clause-done
returns-in-Ok-clause-done c = concluded c.args.pair.attempt c.conclude.result
    c.args.pass.now.seat.me c.prepare.new.pass.seat.me
    c.conclude.new.pass.seat.me c.in-Ok.ensures.prepared.0 c.in-Ok.ensures.found
    c.conclude.ensures.done

pub returns-in-Ok-clause-counted : goal.returns-in-Ok-clause-counted
returns-in-Ok-clause-counted c = tried_both c.args.spent.now c.prepare.new.spent
    c.conclude.new.spent c.args.pass.now.seat.me c.prepare.new.pass.seat.me
    c.conclude.new.pass.seat.me c.prepare.ensures.counted c.conclude.ensures.counted

pub leave_join-requires-clause-own : goal.leave_join-requires-clause-own
leave_join-requires-clause-own c = (
  c.prepare.ensures.frame.same.0 ∙ c.requires.ready.own.0,
  c.prepare.ensures.frame.pin.0
      ∙ c.requires.ready.own.1,
)

pub leave_join-requires-clause-inside : goal.leave_join-requires-clause-inside
leave_join-requires-clause-inside c = inside_by c.args.space.now.table.shared.key
    c.args.pass.now.seat.me.0.upper c.args.pair.attempt.route c.args.above
    c.requires.hung

pub leave_join-requires-clause-leaving : goal.leave_join-requires-clause-leaving
leave_join-requires-clause-leaving c = let u = c.args.pass.now.seat.me.0.upper in let p =
    c.in-Err.ensures.prepared in record {
      is_pinned = (reading_then c.args.space.now c.args.pass.now c.prepare.new.pass
          record { own = c.requires.ready.own; pinned = c.requires.ready.pinned }
          c.prepare.ensures.frame).pinned;
      is_pass = subst (λ (n : ℕ). 0 < n) (sym (ap (λ (w : TreeView). w.number) p.2.only))
          c.requires.ready.number;
      own = c.prepare.ensures.own ∙ c.requires.own;
      remembered = remembered_by c.args.space.now.table.shared.key c.prepare.new.pass.seat.me.0.upper
          c.args.pair.attempt.route c.args.above
          (hung_still c.args.space.now.table.shared.key u c.prepare.new.pass.seat.me.0.upper
          c.args.pair.attempt.route c.args.above
          (ap (λ (w : TreeView). w.ways) p.2.only) c.requires.hung);
      begun = prepared_begun u c.prepare.new.pass.seat.me.0.upper c.args.pair.attempt.route
          c.args.pair.attempt.number
          (ap (λ (w : TreeView). w.ranges) p.2.only) c.requires.pair.one.begun;
    }

pub returns-in-Err-clause-frame : goal.returns-in-Err-clause-frame
returns-in-Err-clause-frame c = pinned_both c.args.pass.now c.prepare.new.pass c.leave_join.new.pass
    c.prepare.ensures.frame
    (left_pinned c.leave_join.result
    (attempt_of c.args.pair.attempt.route c.args.pair.attempt.number) c.prepare.new.pass
    c.leave_join.new.pass
    c.leave_join.ensures.frame c.leave_join.ensures.done)

pub returns-in-Err-clause-none : goal.returns-in-Err-clause-none
returns-in-Err-clause-none c = left_held c.leave_join.result
    (attempt_of c.args.pair.attempt.route c.args.pair.attempt.number)
    c.args.space.now.table.shared.key.rows c.prepare.new.pass.kept c.leave_join.new.pass.kept
    c.prepare.new.pass.seat.me c.leave_join.new.pass.seat.me
    c.leave_join.ensures.frame.kept (c.prepare.ensures.own ∙ c.requires.own) c.in-Err.ensures.held
    c.leave_join.ensures.done

pub returns-in-Err-clause-own : goal.returns-in-Err-clause-own
returns-in-Err-clause-own c = left_own c.leave_join.result
    (attempt_of c.args.pair.attempt.route c.args.pair.attempt.number) c.prepare.new.pass.seat.me
    c.leave_join.new.pass.seat.me c.leave_join.ensures.done

pub returns-in-Err-clause-steps : goal.returns-in-Err-clause-steps
returns-in-Err-clause-steps c = let z = c.args.space.now.table.shared.key in let p =
    c.in-Err.ensures.prepared in
    steps_both z c.args.pass.now.seat.me.0.upper c.prepare.new.pass.seat.me.0.upper
    c.leave_join.new.pass.seat.me.0.upper
    (marks_steps z p.0 c.args.pass.now.seat.me.0.upper c.prepare.new.pass.seat.me.0.upper p.2)
    (left_steps z c.leave_join.result
    (attempt_of c.args.pair.attempt.route c.args.pair.attempt.number) c.prepare.new.pass.seat.me
    c.leave_join.new.pass.seat.me
    c.leave_join.ensures.done)

pub returns-in-Err-clause-done : goal.returns-in-Err-clause-done
returns-in-Err-clause-done c = let p = c.in-Err.ensures.prepared in
    subst (λ (w : Why). HasCarriedOut c.args.pair.attempt (Err w) c.args.pass.now.seat.me
    c.leave_join.new.pass.seat.me) (sym c.cause.ensures)
    (left_counts c.leave_join.result c.args.pair.attempt c.in-Err.why p.0 c.args.pass.now.seat.me
    c.prepare.new.pass.seat.me c.leave_join.new.pass.seat.me p.1 p.2 c.in-Err.ensures.found
    c.leave_join.ensures.done)

pub returns-in-Err-clause-counted : goal.returns-in-Err-clause-counted
returns-in-Err-clause-counted c = tried_both c.args.spent.now c.prepare.new.spent
    c.prepare.new.spent c.args.pass.now.seat.me c.prepare.new.pass.seat.me
    c.leave_join.new.pass.seat.me c.prepare.ensures.counted
    (left_spent c.leave_join.result
    (attempt_of c.args.pair.attempt.route c.args.pair.attempt.number) c.prepare.new.spent
    c.prepare.new.pass.seat.me
    c.leave_join.new.pass.seat.me c.leave_join.ensures.done)

pub returns-in-Ok-clause-alone : goal.returns-in-Ok-clause-alone
returns-in-Ok-clause-alone c alone listed there = let u = c.args.pass.now.seat.me.0.upper in let v =
    c.prepare.new.pass.seat.me.0.upper in
    let end = c.conclude.ensures.alone
    (subst (λ (x : TreeView). IsAlone c.args.space.now.table.shared.key x)
    (sym c.in-Ok.ensures.prepared.0.only) alone) in
    lone_done c.conclude.result c.args.pass.now.seat.me c.conclude.new.pass.seat.me end.0
    (lone_both 0 1 u v c.conclude.new.pass.seat.me.0.upper
    (c.prepare.ensures.alone alone listed there) end.1)

pub returns-in-Err-clause-alone : goal.returns-in-Err-clause-alone
returns-in-Err-clause-alone c alone listed there = let u = c.args.pass.now.seat.me.0.upper in
    let v = c.prepare.new.pass.seat.me.0.upper in
    subst (λ (w : Why). IsLoneTry (outcome_of {T = Unit {0}} (Err w)) c.args.pass.now.seat.me
    c.leave_join.new.pass.seat.me) (sym c.cause.ensures)
    (lone_given_up c.in-Err.why c.args.pass.now.seat.me c.prepare.new.pass.seat.me
    c.leave_join.new.pass.seat.me c.in-Err.ensures.found
    (left_lost c.leave_join.result (attempt_of c.args.pair.attempt.route c.args.pair.attempt.number)
    c.prepare.new.pass.seat.me c.leave_join.new.pass.seat.me
    c.leave_join.ensures.done)
    (lone_both 0 1 u v c.leave_join.new.pass.seat.me.0.upper
    (c.prepare.ensures.alone alone listed there)
    (lone_left c.leave_join.result (attempt_of c.args.pair.attempt.route c.args.pair.attempt.number)
    c.prepare.new.pass.seat.me c.leave_join.new.pass.seat.me
    c.leave_join.ensures.done)))
