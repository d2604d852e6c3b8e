use Rattle.std.proofs.Common.{◌≡◌, true}
use Rattle.ca_rows.specs.Calls.{IsOf, IsNumbered}
use Rattle.ca_join_tests.proofs.drawing.places.Given as goal

abbrev pub invariant-loop-n : goal.invariant-loop-n
invariant-loop-n l = record {
  own : IsOf l.space.table.shared.table_id l.space.table.shared.key l.pass.seat;
  number : IsNumbered l.pass.number l.pass.seat.me.0.pin;
  pinned : l.pass.seat.me.0.pin.pinned ≡ true;
}
