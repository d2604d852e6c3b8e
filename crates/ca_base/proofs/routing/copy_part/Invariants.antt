use Rattle.std.proofs.Common.{◌≡◌, ℕ, List, ◌-◌, ◌≤◌, length, take, drop}
use Rattle.ca_base.specs.Finding.{IsObjectShown, all_bytes}
use Rattle.ca_rows.specs.Calls.{IsOf, IsSame}
use Rattle.ca_base.proofs.routing.copy_part.Given as goal

abbrev pub invariant-loop-at : goal.invariant-loop-at
invariant-loop-at g l = record {
  own : IsOf l.space.table.shared.table_id l.space.table.shared.key l.pass.seat;
  same : IsSame l.fn.pass.seat l.pass.seat;
  number : l.pass.number ≡ l.fn.pass.number;
  tally : l.pass.tally ≡ l.fn.pass.tally;
  kept : l.pass.kept ≡ l.fn.pass.kept;
  still : l.pass.seat.me ≡ l.fn.pass.seat.me;
  low : l.start ≤ l.at;
  high : l.at ≤ l.end;
  many : length l.into.items ≡ l.at - l.start;
  copied : (its : List ℕ) → IsObjectShown l.fn.pass.seat.me.0.upper l.row its
      → l.into.items ≡ take (l.at - l.start) (drop l.start (all_bytes its));
}

abbrev pub decreases-loop-at : goal.decreases-loop-at
decreases-loop-at g l = l.end - l.at
