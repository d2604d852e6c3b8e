use Rattle.std.proofs.Common.{◌≡◌, ◌≤◌}
use Rattle.ca_range.specs.Snapshots.{bases_of}
use Rattle.ca_replace.specs.Running.{IsManyAt, IsOpenRun, left_of}
use Rattle.ca_rows.specs.Calls.{IsOf, IsSame}
use Rattle.ca_replace.proofs.running.settle.Given as goal

abbrev pub invariant-loop-many : goal.invariant-loop-many
invariant-loop-many l = record {
  own : IsOf l.space.table.shared.table_id l.space.table.shared.key l.pass.seat;
  same : IsSame l.fn.pass.seat l.pass.seat;
  number : l.pass.number ≡ l.fn.pass.number;
  tally : l.pass.tally ≡ l.fn.pass.tally;
  kept : l.pass.kept ≡ l.fn.pass.kept;
  still : l.pass.seat.me ≡ l.fn.pass.seat.me;
  opened : IsOpenRun l.space.table.shared.key l.fn.pass.seat.me.0.upper l.run;
  left : left_of l.fn.pass.seat.me.0.upper l.run ≡ left_of l.fn.pass.seat.me.0.upper l.fn.run;
  many_left : l.run.left ≡ l.fn.run.left;
  many : IsManyAt (bases_of l.run.bases l.fn.pass.seat.me.0.upper) l.run.at l.many;
  few : l.many ≤ 120;
}

abbrev pub decreases-loop-many : goal.decreases-loop-many
decreases-loop-many l = l.run.at
