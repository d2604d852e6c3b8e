use Rattle.std.proofs.Common.{◌≡◌, [], drop}
use Rattle.ca_base.specs.Counting.{IsSpent, HasMet, PutsBack}
use Rattle.ca_base.specs.Crowded.{StaysCrowded}
use Rattle.ca_base.specs.Taking.{AreHeld}
use Rattle.ca_rows.specs.Calls.{IsOf, IsStill}
use Rattle.ca_base.proofs.swapping.give_back_all.Given as goal

abbrev pub invariant-loop-at : goal.invariant-loop-at
invariant-loop-at l = record {
  own : IsOf l.space.table.shared.table_id l.space.table.shared.key l.pass.seat;
  still : IsStill l.fn.pass.seat l.pass.seat;
  number : l.pass.number ≡ l.fn.pass.number;
  tally : l.pass.tally ≡ l.fn.pass.tally;
  held : AreHeld l.space.table.shared.key.rows l.pass.kept.rows l.pass.seat.me.0 (drop l.at l.rows);
  counted : IsSpent l.fn.spent l.spent l.fn.pass.seat.me l.pass.seat.me;
  met : HasMet 0 0 l.fn.pass.seat.me l.pass.seat.me;
  crowded : StaysCrowded l.fn.pass.seat.me l.pass.seat.me;
  back : PutsBack [] 0 l.fn.pass.seat.me l.pass.seat.me l.fn.pass.kept l.pass.kept;
}
