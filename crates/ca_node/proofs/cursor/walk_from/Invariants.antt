use Rattle.std.proofs.Common.{◌≡◌, ◌+◌, ◌-◌, true}
use Rattle.ca_node.specs.Walking.{IsWalking}
use Rattle.ca_rows.specs.Calls.{IsOf, IsSame}
use Rattle.ca_node.proofs.cursor.walk_from.Given as goal

abbrev pub invariant-loop-level : goal.invariant-loop-level
invariant-loop-level l = record {
  own : IsOf l.space.table.shared.table_id l.space.table.shared.key l.pass.seat;
  same : IsSame l.fn.pass.seat l.pass.seat;
  number : l.pass.number ≡ l.fn.pass.number;
  tally : l.pass.tally ≡ l.fn.pass.tally;
  kept : l.pass.kept ≡ l.fn.pass.kept;
  pinned : l.pass.seat.me.0.pin.pinned ≡ true;
  walking : IsWalking l.space.table.shared.key l.spot l.fn.pass.seat.me l.cursor l.pass.seat.me;
}

abbrev pub decreases-loop-level : goal.decreases-loop-level
decreases-loop-level l =
    l.fn.pass.seat.me.0.upper.loads + l.space.table.shared.key.levels + 1 - l.pass.seat.me.0.upper.loads
