use Rattle.std.proofs.Common.{◌≡◌, ◌≤◌, ◌+◌, ◌-◌}
use Rattle.ca_node.specs.Told.{with_upper}
use Rattle.ca_rows.specs.Calls.{IsSame}
use Rattle.ca_range.specs.Ahead.{IsAtMarked}
use Rattle.ca_range.specs.Farther.{reach, room}
use Rattle.ca_range.specs.Meeting.{AreMet}
use Rattle.ca_base.specs.Spending.{IsSpentOn}
use Rattle.ca_range.specs.Staying.{OnlySteps}
use Rattle.ca_range.proofs.along.go_along.Given as goal
use Rattle.ca_range.specs.Loading.{GoesBy}

abbrev pub invariant-loop-left : goal.invariant-loop-left
invariant-loop-left l = record {
  same : IsSame l.fn.pass.seat l.pass.seat;
  number : l.pass.number ≡ l.fn.pass.number;
  tally : l.pass.tally ≡ l.fn.pass.tally;
  kept : l.pass.kept ≡ l.fn.pass.kept;
  raised : l.pass.seat.me ≡ with_upper l.fn.pass.seat.me l.pass.seat.me.0.upper;
  steps : OnlySteps l.space.table.shared.key 0 l.fn.pass.seat.me.0.upper l.pass.seat.me.0.upper;
  no_join : l.pass.seat.me.0.upper.joins ≡ l.fn.pass.seat.me.0.upper.joins;
  met : AreMet l.account.met.numbers l.pass.seat.me.0.upper.ranges.unfinished;
  counted : IsSpentOn l.fn.account.spent l.account.spent l.fn.pass.seat.me l.pass.seat.me;
  at : IsAtMarked l.space.table.shared.key l.pass.seat.me.0.upper l.range l.left;
  loads : GoesBy l.space.table.shared.key l.fn.pass.seat.me.0.upper l.pass.seat.me.0.upper;
  far : reach l.fn.pass.seat.me.0.upper ≤ reach l.pass.seat.me.0.upper;
}

abbrev pub decreases-loop-left : goal.decreases-loop-left
decreases-loop-left l = room 1000 + 1 - reach l.pass.seat.me.0.upper
