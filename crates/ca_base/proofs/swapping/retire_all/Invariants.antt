use Rattle.std.proofs.Common.{◌≡◌, drop, take}
use Rattle.ca_base.specs.Counting.{losses, HasMet, KeepsMore}
use Rattle.ca_base.specs.Taking.{AreUnlinked}
use Rattle.ca_rows.specs.Calls.{IsOf, IsStill}
use Rattle.ca_base.proofs.swapping.retire_all.Given as goal

abbrev pub invariant-loop-at : goal.invariant-loop-at
invariant-loop-at l = record {
  own : IsOf l.space.table.shared.table_id l.space.table.shared.key l.pass.seat;
  still : IsStill l.fn.pass.seat l.pass.seat;
  number : l.pass.number ≡ l.fn.pass.number;
  tally : l.pass.tally ≡ l.fn.pass.tally;
  unlinked : AreUnlinked l.space.table.shared.key.rows l.pass.kept.rows l.pass.seat.me.0
      (drop l.at l.rows);
  met : (losses l.pass.seat.me ≡ losses l.fn.pass.seat.me)
      × HasMet 0 0 l.fn.pass.seat.me l.pass.seat.me;
  kept : KeepsMore l.form (take l.at l.rows) l.fn.pass.kept.rows.items l.pass.kept.rows.items;
}
