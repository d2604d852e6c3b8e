use Rattle.std.proofs.Common.{Bool, ◌<◌, ◌∙◌, false, true, refl, subst, sym}
use Rattle.ca_node.specs.JoinSteps.{attempt_of, HasAbortedJoin}
use Rattle.ca_node.specs.Links.{IsIn}
use Rattle.ca_node.specs.Told.{MyTree}
use Rattle.ca_range.proofs.JoinsEnded.{finished_by_abort, joined_own, learns_by_abort, learns_by_late, learns_on, none_still}
use Rattle.ca_range.proofs.JoinsFinished.{finished_join, keeps_both}
use Rattle.ca_range.proofs.joins.give_up_join.Goals as goal

pub abort_join-won-requires-clause-aborting : goal.abort_join-won-requires-clause-aborting
abort_join-won-requires-clause-aborting c = let x = attempt_of c.args.attempt.route c.args.attempt.number in record {
  is_pinned = c.requires.ready.pinned;
  is_pass = c.requires.ready.number;
  other = (c.requires.other x).0;
  remembered = c.requires.prepared.0.0;
  begun = c.requires.prepared.1;
  found = c.requires.prepared.2;
}

pub look_at-requires-clause-number : goal.look_at-requires-clause-number
look_at-requires-clause-number c = let x = attempt_of c.args.attempt.route c.args.attempt.number in
    subst (λ (y : MyTree). 0 < y.0.upper.number)
    (sym (subst (λ (b : Bool). HasAbortedJoin b x c.args.pass.now.seat.me c.abort_join-won.new.pass.seat.me) c.if-won.false c.abort_join-won.ensures.done))
    c.requires.ready.number

pub look_at-requires-clause-other : goal.look_at-requires-clause-other
look_at-requires-clause-other c = let x = attempt_of c.args.attempt.route c.args.attempt.number in let m = c.args.pass.now.seat.me in
    let n = c.abort_join-won.new.pass.seat.me in
    let late = subst (λ (b : Bool). HasAbortedJoin b x m n) c.if-won.false c.abort_join-won.ensures.done in
    none_still m.0.upper.ranges.own n.0.upper.ranges.own (joined_own true m n (learns_by_late x m n late)) c.requires.other

pub carry_out-requires-clause-other : goal.carry_out-requires-clause-other
carry_out-requires-clause-other c = let x = attempt_of c.args.attempt.route c.args.attempt.number in let m = c.args.pass.now.seat.me in
    let n = c.abort_join-won.new.pass.seat.me in let k = c.look_at.new.pass.seat.me in
    let late = subst (λ (b : Bool). HasAbortedJoin b x m n) c.if-won.false c.abort_join-won.ensures.done in
    none_still m.0.upper.ranges.own k.0.upper.ranges.own (joined_own false n k c.in-Secured.ensures.found.0
    ∙ joined_own true m n (learns_by_late x m n late)) c.requires.other

pub returns-then-won-clause-given_up : goal.returns-then-won-clause-given_up
returns-then-won-clause-given_up c = let x = attempt_of c.args.attempt.route c.args.attempt.number in let m = c.args.pass.now.seat.me in
    let n = c.abort_join-won.new.pass.seat.me in
    let done = subst (λ (b : Bool). HasAbortedJoin b x m n) c.if-won.true c.abort_join-won.ensures.done in (
      c.abort_join-won.ensures.frame,
      learns_by_abort x m n c.requires.ready.none.1.now done,
      finished_by_abort c.args.attempt m n done,
    )

pub carry_out-requires-clause-decided : goal.carry_out-requires-clause-decided
carry_out-requires-clause-decided c = λ _. let x = attempt_of c.args.attempt.route c.args.attempt.number in
    c.look_at.ensures.decided x (subst (λ (y : MyTree). IsIn x y.0.upper.ranges.joins.decided)
    (sym (subst (λ (b : Bool). HasAbortedJoin b x c.args.pass.now.seat.me c.abort_join-won.new.pass.seat.me) c.if-won.false c.abort_join-won.ensures.done))
    (0, refl))

pub returns-in-Secured-clause-given_up : goal.returns-in-Secured-clause-given_up
returns-in-Secured-clause-given_up c = let x = attempt_of c.args.attempt.route c.args.attempt.number in let m = c.args.pass.now.seat.me in
    let n = c.abort_join-won.new.pass.seat.me in let k = c.look_at.new.pass.seat.me in
    let late = subst (λ (b : Bool). HasAbortedJoin b x m n) c.if-won.false c.abort_join-won.ensures.done in
    finished_join c.args.space.now true c.carry_out.result c.args.pass.now c.look_at.new.pass c.carry_out.new.pass
    (keeps_both c.abort_join-won.ensures.frame c.look_at.ensures.frame)
    (learns_on true m n k (learns_by_late x m n late) c.in-Secured.ensures.found.0) c.carry_out.ensures.carried c.requires.several
