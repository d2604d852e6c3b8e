use Rattle.std.proofs.Common.{◌≡◌, ◌-◌, ◌<◌, false, vec_len}
use Rattle.ca_base.specs.Progress.{IsFurther}
use Rattle.ca_node.specs.States.{IsAlone}
use Rattle.ca_replace.specs.Attempting.{at_pin, total}
use Rattle.ca_replace.specs.Between.{MayBegin}
use Rattle.ca_replace.specs.Bounded.{IsPaced}
use Rattle.ca_replace.specs.Causes.{HasPinned}
use Rattle.ca_replace.specs.Crowding.{HasFewAlone, KeepsBySplits}
use Rattle.ca_replace.proofs.Waiting.{IsWaiting}
use Rattle.ca_rows.specs.Calls.{IsSame}
use Rattle.ca_replace.proofs.calls.turns.Given as goal

abbrev pub invariant-loop-course : goal.invariant-loop-course
invariant-loop-course g l = record {
  same : IsSame l.fn.pass.seat l.pass.seat;
  number : l.pass.number ≡ l.fn.pass.number;
  sizes : l.pass.seat.me.0.sizes ≡ l.fn.pass.seat.me.0.sizes;
  pin_number : l.pass.seat.me.0.pin.number ≡ l.fn.pass.seat.me.0.pin.number;
  -- Another attempt may begin, and the pass has pinned since the call began.
  may : MayBegin l.tree.space (g.A.Attempt.about l.order.what.now) l.course.again false l.pass;
  since : IsFurther l.fn.pass.seat.me.0.upper (at_pin l.pass.seat.me.0.upper);
  pinned : HasPinned l.fn.pass.seat.me l.pass.seat.me;
  paced : IsPaced l.fn.pass.seat.me l.pass.seat.me;
  -- Attempts so far keep a row more only where they split a base, or lost an exchange.
  keeps : IsAlone l.tree.space.table.shared.key l.fn.pass.seat.me.0.upper
      → KeepsBySplits (vec_len l.fn.pass.kept.rows) (vec_len l.pass.kept.rows) l.fn.pass.seat.me l.pass.seat.me;
  -- As it begins it has few rows, if it has few now.
  few_rows : HasFewAlone l.tree.space.table.shared.key l.pass.seat.me.0.upper
      → HasFewAlone l.tree.space.table.shared.key l.fn.pass.seat.me.0.upper;
  unspent : total l.course.spent < l.order.budget;
  waiting : IsWaiting l.tree.space.table.shared.key (g.A.Attempt.adds l.order.what.now)
      l.fn.course l.course l.fn.pass.seat.me l.pass.seat.me;
}

abbrev pub decreases-loop-course : goal.decreases-loop-course
decreases-loop-course g l = l.budget - total l.course.spent
