use Rattle.std.proofs.Common.{◌≡◌, ◌+◌, ◌-◌, ◌*◌, ◌<◌, ◌≤◌, min, vec_len}
use Rattle.ca_base.specs.Progress.{IsFurther}
use Rattle.ca_node.specs.States.{IsAlone}
use Rattle.ca_replace.specs.Acts.{acts_of}
use Rattle.ca_replace.specs.Attempting.{IsPaid, total}
use Rattle.ca_replace.specs.Resting.{IsResting}
use Rattle.ca_replace.proofs.LoneReads.{HasBegunAlone}
use Rattle.ca_replace.proofs.Pacing.{IsBoundedYet}
use Rattle.ca_replace.proofs.Pinning.{Before}
use Rattle.ca_replace.proofs.ReadLoads.{HasReadYet}
use Rattle.ca_replace.proofs.ranging.attempts.Given as goal

abbrev pub invariant-loop-answer : goal.invariant-loop-answer
invariant-loop-answer g l = record {
  number : l.pass.number ≡ l.fn.pass.number;
  resting : IsResting l.tree.space.table.shared.table_id l.tree.space.table.shared.key l.pass.number
      l.pass.tally l.pass.kept.rows l.pass.seat;
  further : IsFurther l.fn.pass.seat.me.0.upper l.pass.seat.me.0.upper;
  acts : acts_of l.pass.seat.me.0.upper ≡ acts_of l.fn.pass.seat.me.0.upper;
  counted : IsPaid l.fn.spent l.spent l.fn.pass.seat.me l.pass.seat.me;
  looks : l.fn.pass.seat.me.0.pin.looks ≤ l.pass.seat.me.0.pin.looks;
  worn : l.pass.seat.me.0.worn ≡ l.fn.pass.seat.me.0.worn;
  first : Before (vec_len l.pass.kept.rows) l.fn.pass.seat.me l.pass.seat.me l.fn.pass.kept.rows;
  alone : IsAlone l.tree.space.table.shared.key l.fn.pass.seat.me.0.upper
      → HasBegunAlone (vec_len l.pass.kept.rows) l.fn.pass.seat.me l.pass.seat.me;
  unspent : total l.spent < l.order.budget;
  lags : l.pass.seat.me.0.pin.lags ≡ l.fn.pass.seat.me.0.pin.lags;
  yet : IsBoundedYet (vec_len l.pass.kept.rows) (vec_len l.fn.pass.kept.rows) l.fn.pass.seat.me l.pass.seat.me;
  read : HasReadYet l.tree.space.table.shared.key l.fn.pass.seat.me l.pass.seat.me;
}

abbrev pub decreases-loop-answer : goal.decreases-loop-answer
decreases-loop-answer g l = 2 * (l.order.budget - total l.spent) + min (vec_len l.pass.kept.rows) 1
