use Rattle.std.proofs.Common.{◌≡◌, ◌++◌, take, vec_capacity}
use Rattle.std.specs.Mem.Slots.{slots_items}
use Rattle.ca_node.specs.Row.{row_at, items}
use Rattle.ca_close.proofs.listing.push_items.Given as goal

abbrev pub invariant-loop-place : goal.invariant-loop-place
invariant-loop-place l = record {
  so_far : l.rows.items ≡ l.initial.rows.items ++ take l.place (items (row_at (slots_items l.words.closed.words) l.base));
  room : vec_capacity l.rows ≡ vec_capacity l.initial.rows;
}
