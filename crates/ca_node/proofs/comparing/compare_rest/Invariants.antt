use Rattle.std.proofs.Common.{◌≡◌, ◌*◌, ℕ, List, min, drop}
use Rattle.ca_node.specs.Layout.{key_word}
use Rattle.ca_node.specs.Row.{bytes_in, count}
use Rattle.ca_node.specs.Walking.{IsRouteShown}
use Rattle.ca_rows.specs.Calls.{IsOf, IsSame}
use Rattle.ca_node.proofs.KeyOrder.{IsLeft}
use Rattle.ca_node.proofs.comparing.compare_rest.Given as goal

abbrev pub invariant-loop-place : goal.invariant-loop-place
invariant-loop-place l = record {
  own : IsOf l.space.table.shared.table_id l.space.table.shared.key l.pass.seat;
  same : IsSame l.fn.pass.seat l.pass.seat;
  number : l.pass.number ≡ l.fn.pass.number;
  tally : l.pass.tally ≡ l.fn.pass.tally;
  kept : l.pass.kept ≡ l.fn.pass.kept;
  still : l.pass.seat.me ≡ l.fn.pass.seat.me;
  left : (its : List ℕ) → IsRouteShown l.fn.pass.seat.me.0.upper l.route its
      → IsLeft (bytes_in (drop key_word its)) l.key 0 (count its) (min l.stop (8 * l.place));
}
