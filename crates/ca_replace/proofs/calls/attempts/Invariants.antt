use Rattle.std.proofs.Common.{◌≡◌, ◌≢◌, ◌⊎◌, ◌+◌, ◌-◌, ◌*◌, ◌<◌, ◌≤◌, min, vec_len}
use Rattle.ca_base.specs.Counting.{losses}
use Rattle.ca_base.specs.Progress.{IsFurther}
use Rattle.ca_node.specs.States.{IsAlone}
use Rattle.ca_replace.specs.Adapting.{Waits}
use Rattle.ca_replace.specs.Attempting.{IsPaid, total}
use Rattle.ca_replace.specs.Crowding.{HasFewAlone}
use Rattle.ca_replace.specs.Cutting.{HasCutFull}
use Rattle.ca_replace.specs.Growing.{HasWaited}
use Rattle.ca_replace.specs.Resting.{IsResting}
use Rattle.ca_replace.specs.Winning.{LosesNone}
use Rattle.ca_replace.proofs.Pacing.{IsBoundedYet}
use Rattle.ca_replace.proofs.Loads.{HasLoadedYet}
use Rattle.ca_replace.proofs.calls.attempts.Given as goal

abbrev pub invariant-loop-come : goal.invariant-loop-come
invariant-loop-come g l = record {
  number : l.pass.number ≡ l.fn.pass.number;
  resting : IsResting l.tree.space.table.shared.table_id l.tree.space.table.shared.key l.pass.number
      l.pass.tally l.pass.kept.rows l.pass.seat;
  further : IsFurther l.fn.pass.seat.me.0.upper l.pass.seat.me.0.upper;
  counted : IsPaid l.fn.course.spent l.course.spent l.fn.pass.seat.me l.pass.seat.me;
  looks : l.fn.pass.seat.me.0.pin.looks ≤ l.pass.seat.me.0.pin.looks;
  waits : Waits l.fn.course.adapting l.course.adapting l.fn.pass.seat.me.0.upper
      l.pass.seat.me.0.upper;
  won : IsAlone l.tree.space.table.shared.key l.fn.pass.seat.me.0.upper
      → LosesNone l.fn.pass.seat.me.0.upper l.pass.seat.me.0.upper;
  waited : IsAlone l.tree.space.table.shared.key l.fn.pass.seat.me.0.upper
      → HasWaited l.tree.space.table.shared.key (g.A.Attempt.adds l.order.what.now)
      l.fn.pass.seat.me.0.upper l.pass.seat.me.0.upper;
  few_rows : HasFewAlone l.tree.space.table.shared.key l.pass.seat.me.0.upper
      → HasFewAlone l.tree.space.table.shared.key l.fn.pass.seat.me.0.upper;
  full : HasCutFull l.tree.space.table.shared.key (g.A.Attempt.adds l.order.what.now)
      l.fn.pass.seat.me.0.upper l.pass.seat.me.0.upper;
  worn : l.pass.seat.me.0.worn ≡ l.fn.pass.seat.me.0.worn;
  first : ((vec_len l.pass.kept.rows ≡ vec_len l.fn.pass.kept.rows)
      × (l.pass.seat.me.0.empty ≡ l.fn.pass.seat.me.0.empty))
      ⊎ ((l.fn.pass.seat.me.0.empty + 1 ≤ l.pass.seat.me.0.empty)
      × (0 < vec_len l.fn.pass.kept.rows)
      × ((vec_len l.pass.kept.rows ≡ 0) ⊎ (losses l.fn.pass.seat.me < losses l.pass.seat.me))
      × (l.pass.seat.me.0.pin.looks ≢ l.pass.seat.me.0.pin.begun_at));
  unspent : total l.course.spent < l.order.budget;
  lags : l.pass.seat.me.0.pin.lags ≡ l.fn.pass.seat.me.0.pin.lags;
  loads : HasLoadedYet l.tree.space.table.shared.key l.fn.pass.seat.me l.pass.seat.me;
  yet : IsBoundedYet (vec_len l.pass.kept.rows) (vec_len l.fn.pass.kept.rows) l.fn.pass.seat.me l.pass.seat.me;
}

abbrev pub decreases-loop-come : goal.decreases-loop-come
decreases-loop-come g l =
    2 * (l.order.budget - total l.course.spent) + min (vec_len l.pass.kept.rows) 1
