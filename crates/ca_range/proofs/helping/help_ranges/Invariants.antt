use Rattle.std.proofs.Common.{◌≡◌, ◌≢◌, ◌<◌, ◌≤◌, ◌+◌, ◌-◌}
use Rattle.ca_base.specs.Counting.{HasMet}
use Rattle.ca_base.specs.Readiness.{IsReady, StaysReady}
use Rattle.ca_node.specs.TreeView.{Quiet}
use Rattle.ca_range.specs.Ahead.{IsAtMarked}
use Rattle.ca_range.specs.Farther.{reach, room}
use Rattle.ca_range.specs.Meeting.{AreMet}
use Rattle.ca_base.specs.Spending.{IsSpentOn}
use Rattle.ca_range.specs.Staying.{OnlySteps}
use Rattle.ca_range.proofs.Filled.{IsHelpedNow}
use Rattle.ca_range.proofs.helping.help_ranges.Given as goal
use Rattle.ca_range.specs.Loading.{GoesBy}

abbrev pub invariant-loop-range : goal.invariant-loop-range
invariant-loop-range l = record {
  ready : IsReady l.space l.pass;
  frame : StaysReady l.space l.fn.pass l.pass;
  quiet : l.pass.seat.me.0.upper.ranges.own ≡ Quiet;
  other : (0 < l.range.owner) × (l.range.owner ≤ 64) × (l.range.owner ≢ l.pass.seat.me.0.upper.number);
  now : IsHelpedNow l.fn.from.range l.range l.fn.pass.seat.me.0.upper l.pass.seat.me.0.upper;
  number : l.pass.number ≡ l.pass.seat.me.0.upper.number;
  steps : OnlySteps l.space.table.shared.key 0 l.fn.pass.seat.me.0.upper l.pass.seat.me.0.upper;
  met : AreMet l.account.met.numbers l.pass.seat.me.0.upper.ranges.unfinished;
  counted : IsSpentOn l.fn.account.spent l.account.spent l.fn.pass.seat.me l.pass.seat.me;
  at : IsAtMarked l.space.table.shared.key l.pass.seat.me.0.upper l.range l.cursor;
  pool : HasMet 0 0 l.fn.pass.seat.me l.pass.seat.me;
  loads : GoesBy l.space.table.shared.key l.fn.pass.seat.me.0.upper l.pass.seat.me.0.upper;
  far : reach l.fn.pass.seat.me.0.upper ≤ reach l.pass.seat.me.0.upper;
}

abbrev pub decreases-loop-range : goal.decreases-loop-range
decreases-loop-range l = room 1000 + 1 - reach l.pass.seat.me.0.upper
