use Rattle.std.proofs.Common.{◌≡◌, ◌-◌, ◌≤◌}
use Rattle.ca_rows.specs.Told.{with_pin}
use Rattle.ca_rows.proofs.space.Space.lagging.Given as goal

abbrev pub invariant-loop-seen : goal.invariant-loop-seen
invariant-loop-seen g l = record {
  table : l.pass.seat.table_id ≡ l.fn.pass.seat.table_id;
  id : l.pass.seat.id ≡ l.fn.pass.seat.id;
  number : l.pass.number ≡ l.fn.pass.number;
  tally : l.pass.tally ≡ l.fn.pass.tally;
  kept : l.pass.kept ≡ l.fn.pass.kept;
  within : l.seen ≤ l.self.sizes.passes;
  looked : l.pass.seat.me
      ≡ with_pin l.fn.pass.seat.me (record l.fn.pass.seat.me.0.pin { upto = l.seen });
}

abbrev pub decreases-loop-seen : goal.decreases-loop-seen
decreases-loop-seen g l = l.self.sizes.passes - l.seen
