use Rattle.std.proofs.Common.{◌≡◌, ◌+◌, ◌*◌, ◌≤◌, length, drop}
use Rattle.ca_term.specs.Tree.{nodes, row_nodes, row_of}
use Rattle.ca_term.specs.Code.{code_of, row_code}
use Rattle.ca_term.proofs.length.+length.Given as goal

abbrev pub decreases-room_behind : goal.decreases-room_behind
decreases-room_behind l = 2 * nodes l.term.now

abbrev pub decreases-room_behind_items : goal.decreases-room_behind_items
decreases-room_behind_items l = 2 * row_nodes (row_of l.items.now) + 1

abbrev pub invariant-room_behind_items-loop-item : goal.invariant-room_behind_items-loop-item
invariant-room_behind_items-loop-item l = l.left + length (row_code (row_of l.items)) ≡ l.room + length (row_code (row_of (drop l.item-index l.items)))

abbrev pub invariant-room_behind-loop-rest : goal.invariant-room_behind-loop-rest
invariant-room_behind-loop-rest l = record {
  left_is : l.left + length (code_of l.term) ≡ l.room + length (code_of l.rest);
  fewer : nodes l.rest ≤ nodes l.term;
}

abbrev pub decreases-room_behind-loop-rest : goal.decreases-room_behind-loop-rest
decreases-room_behind-loop-rest l = nodes l.rest
