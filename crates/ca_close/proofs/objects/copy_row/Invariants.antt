use Rattle.std.proofs.Common.{◌≡◌, ◌*◌, min, take}
use Rattle.std.specs.Mem.Slots.{slots_items}
use Rattle.ca_node.specs.Row.{row_at, bytes_in, code_words}
use Rattle.ca_close.proofs.objects.copy_row.Given as goal

abbrev pub invariant-loop-i : goal.invariant-loop-i
invariant-loop-i l = l.into.items ≡ take (min l.len (8 * l.i)) (bytes_in (code_words (row_at (slots_items l.words.closed.words) l.row)))
