use Rattle.std.proofs.Common.{◌≡◌, ◌-◌, ◌≤◌, length}
use Rattle.ca_range.specs.Snapshots.{bases_of}
use Rattle.ca_replace.specs.Running.{row_in}
use Rattle.ca_rows.specs.Calls.{IsOf, IsSame}
use Rattle.ca_join_tests.proofs.halts.keys_of.Given as goal

abbrev pub invariant-loop-row : goal.invariant-loop-row
invariant-loop-row l = record {
  own : IsOf l.space.table.shared.table_id l.space.table.shared.key l.pass.seat;
  same : IsSame l.fn.pass.seat l.pass.seat;
  number : l.pass.number ≡ l.fn.pass.number;
  tally : l.pass.tally ≡ l.fn.pass.tally;
  kept : l.pass.kept ≡ l.fn.pass.kept;
  still : l.pass.seat.me ≡ l.fn.pass.seat.me;
  here : l.row ≡ row_in (bases_of l.run l.fn.pass.seat.me.0.upper) l.at;
  inside : l.at ≤ length (bases_of l.run l.fn.pass.seat.me.0.upper);
}

abbrev pub decreases-loop-row : goal.decreases-loop-row
decreases-loop-row l = length (bases_of l.run l.fn.pass.seat.me.0.upper) - l.at
