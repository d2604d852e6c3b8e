use Rattle.std.proofs.Common.{◌≡◌, ℕ, List, ◌*◌, min, take}
use Rattle.ca_node.specs.Row.{bytes_in, code_words}
use Rattle.ca_base.specs.Finding.{IsObjectShown}
use Rattle.ca_rows.specs.Calls.{IsOf, IsSame}
use Rattle.ca_base.proofs.reading.copy_object.Given as goal

abbrev pub invariant-loop-i : goal.invariant-loop-i
invariant-loop-i l = record {
  own : IsOf l.space.table.shared.table_id l.space.table.shared.key l.pass.seat;
  same : IsSame l.fn.pass.seat l.pass.seat;
  number : l.pass.number ≡ l.fn.pass.number;
  tally : l.pass.tally ≡ l.fn.pass.tally;
  kept : l.pass.kept ≡ l.fn.pass.kept;
  still : l.pass.seat.me ≡ l.fn.pass.seat.me;
  copied : (its : List ℕ) → IsObjectShown l.fn.pass.seat.me.0.upper l.row its
      → l.into.items ≡ take (min l.len (8 * l.i)) (bytes_in (code_words its));
}

abbrev pub invariant-loop-four : goal.invariant-loop-four
invariant-loop-four l = record {
  own : IsOf l.space.table.shared.table_id l.space.table.shared.key l.pass.seat;
  same : IsSame l.fn.pass.seat l.pass.seat;
  number : l.pass.number ≡ l.fn.pass.number;
  tally : l.pass.tally ≡ l.fn.pass.tally;
  kept : l.pass.kept ≡ l.fn.pass.kept;
  still : l.pass.seat.me ≡ l.fn.pass.seat.me;
  copied : (its : List ℕ) → IsObjectShown l.fn.pass.seat.me.0.upper l.row its
      → l.into.items ≡ take (32 * l.four) (bytes_in (code_words its));
}
