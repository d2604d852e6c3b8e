use Rattle.std.proofs.Common.{◌≡◌}
use Rattle.ca_range.specs.Snapshots.{bases_of}
use Rattle.ca_replace.specs.Running.{HasRows, row_in}
use Rattle.ca_rows.specs.Calls.{IsOf, IsSame}
use Rattle.ca_replace.proofs.running.walked_to.Given as goal

abbrev pub invariant-loop-k : goal.invariant-loop-k
invariant-loop-k l = record {
  own : IsOf l.space.table.shared.table_id l.space.table.shared.key l.pass.seat;
  same : IsSame l.fn.pass.seat l.pass.seat;
  number : l.pass.number ≡ l.fn.pass.number;
  tally : l.pass.tally ≡ l.fn.pass.tally;
  kept : l.pass.kept ≡ l.fn.pass.kept;
  still : l.pass.seat.me ≡ l.fn.pass.seat.me;
  walked : l.window.walked ≡ l.k;
  here : l.row ≡ row_in (bases_of l.bases l.fn.pass.seat.me.0.upper) l.k;
  rows : HasRows (row_in (bases_of l.bases l.fn.pass.seat.me.0.upper)) l.window;
}
