use Rattle.std.proofs.Common.{◌≡◌, ◌-◌, ◌<◌, vec_len}
use Rattle.ca_base.specs.Counting.{HasMet}
use Rattle.ca_base.specs.Progress.{IsFurther}
use Rattle.ca_node.specs.States.{IsAlone}
use Rattle.ca_node.specs.Told.{MyTree}
use Rattle.ca_replace.specs.Acts.{acts_of}
use Rattle.ca_replace.specs.Attempting.{IsPaid, total}
use Rattle.ca_replace.specs.Bounded.{IsPaced}
use Rattle.ca_replace.specs.Causes.{HasPinned}
use Rattle.ca_replace.specs.Resting.{IsResting}
use Rattle.ca_replace.proofs.ReadLoads.{HasReadYet}
use Rattle.ca_replace.proofs.ranging.tries.Given as goal

abbrev pub invariant-loop-spent : goal.invariant-loop-spent
invariant-loop-spent g l = record {
  number : l.pass.number ≡ l.fn.pass.number;
  resting : IsResting l.tree.space.table.shared.table_id l.tree.space.table.shared.key l.pass.number
      l.pass.tally l.pass.kept.rows l.pass.seat;
  further : IsFurther l.fn.pass.seat.me.0.upper l.pass.seat.me.0.upper;
  acts : acts_of l.pass.seat.me.0.upper ≡ acts_of l.fn.pass.seat.me.0.upper;
  counted : IsPaid l.fn.spent l.spent l.fn.pass.seat.me l.pass.seat.me;
  met : HasMet 0 0 l.fn.pass.seat.me l.pass.seat.me;
  unspent : total l.spent < l.order.budget;
  -- An attempt that pins then is one that the call pins by.
  pinned : (m : MyTree) → HasPinned l.pass.seat.me m → HasPinned l.fn.pass.seat.me m;
  paced : (m : MyTree) → IsPaced l.pass.seat.me m → IsPaced l.fn.pass.seat.me m;
  -- A pass that is alone makes one attempt.
  first : IsAlone l.tree.space.table.shared.key l.fn.pass.seat.me.0.upper
      → (l.pass.seat.me ≡ l.fn.pass.seat.me) × (vec_len l.pass.kept.rows ≡ vec_len l.fn.pass.kept.rows);
  read : HasReadYet l.tree.space.table.shared.key l.fn.pass.seat.me l.pass.seat.me;
}

abbrev pub decreases-loop-spent : goal.decreases-loop-spent
decreases-loop-spent g l = l.order.budget - total l.spent
