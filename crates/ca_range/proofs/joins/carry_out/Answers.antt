use Rattle.std.proofs.Common.{sym, refl, subst}
use Rattle.ca_base.specs.Spending.{IsSpentOn}
use Rattle.ca_node.specs.JoinSteps.{attempt_of}
use Rattle.ca_model.specs.declared.outcome.Spent.{Spent}
use Rattle.ca_range.specs.Attempts.{HasTriedJoin}
use Rattle.ca_range.specs.declared.helped.Helped.{Helped}
use Rattle.ca_range.proofs.JoinsFinished.{hung_by, spent_more, tried_join}
use Rattle.ca_range.proofs.joins.carry_out.Goals as goal

pub finish_join-finish-requires-clause-above : goal.finish_join-finish-requires-clause-above
finish_join-finish-requires-clause-above c = hung_by c.args.space.now.table.shared.key c.args.pass.now.seat.me.0.upper c.args.attempt.route c.args.above
    c.requires.above

pub returns-clause-carried : goal.returns-clause-carried
returns-clause-carried c = let e = c.finish_join-finish.ensures in record {
  frame = e.frame;
  steps = e.finished.steps;
  loads = e.finished.loads;
  tried = subst (λ (h : Helped). HasTriedJoin c.args.counted h c.args.pass.now.seat.me c.finish_join-finish.new.pass.seat.me) (sym c.helped_so.ensures)
      (tried_join c.args.space.now.table.shared.key c.args.counted c.finish_join-finish.new.spent c.args.pass.now.seat.me
      c.finish_join-finish.new.pass.seat.me e.counted c.finish_join-finish.result _ refl e.finished);
}

pub returns-clause-counted : goal.returns-clause-counted
returns-clause-counted c = let m = c.args.pass.now.seat.me in let n = c.finish_join-finish.new.pass.seat.me in
    subst (λ (x : Spent). IsSpentOn c.args.spent.now x m n) (sym c.spend.ensures)
    (spent_more c.args.spent.now c.finish_join-finish.new.spent m n c.finish_join-finish.ensures.counted)

pub finish_join-finish-requires-clause-other : goal.finish_join-finish-requires-clause-other
finish_join-finish-requires-clause-other c = (c.requires.other (attempt_of c.args.attempt.route c.args.attempt.number)).1
