use Rattle.std.proofs.Common.{◌-◌, ◌/◌, ◌≡◌, ℕ, ◌<◌, ◌≤◌, List, get_or}
use Rattle.ca_node.specs.Row.{bytes_in, code_words}
use Rattle.ca_base.specs.Finding.{IsObjectShown}
use Rattle.ca_rows.specs.Calls.{IsOf, IsSame}
use Rattle.ca_node.specs.Walking.{HasBytesFrom}
use Rattle.ca_node.proofs.KeyOrder.{IsLeft}
use Rattle.ca_base.proofs.comparing.compare_by.Given as goal

abbrev pub invariant-loop-at : goal.invariant-loop-at
invariant-loop-at l = record {
  own : IsOf l.space.table.shared.table_id l.space.table.shared.key l.pass.seat;
  same : IsSame l.fn.pass.seat l.pass.seat;
  number : l.pass.number ≡ l.fn.pass.number;
  tally : l.pass.tally ≡ l.fn.pass.tally;
  kept : l.pass.kept ≡ l.fn.pass.kept;
  still : l.pass.seat.me ≡ l.fn.pass.seat.me;
  low : l.start ≤ l.at;
  high : l.at ≤ l.stop;
  word : (its : List ℕ) → IsObjectShown l.fn.pass.seat.me.0.upper l.row its → l.at < l.stop
      → l.word ≡ get_or (code_words its) (l.at / 8) 0;
  other : HasBytesFrom l.key (l.at - l.start) l.other;
  left : (its : List ℕ) → IsObjectShown l.fn.pass.seat.me.0.upper l.row its
      → IsLeft (bytes_in (code_words its)) l.key l.start l.end l.at;
}

abbrev pub decreases-loop-at : goal.decreases-loop-at
decreases-loop-at l = l.stop - l.at
