use Rattle.std.proofs.Common.{◌≡◌, ◌+◌, ◌*◌, ◌≤◌, take, vec_len}
use Rattle.ca_term.specs.Tree.{nodes, row_nodes, row_of}
use Rattle.ca_term.proofs.Cells.{IsKept}
use Rattle.ca_term.proofs.copy.+copy.Given as goal

abbrev pub decreases-try_copy : goal.decreases-try_copy
decreases-try_copy l = 3 * nodes l.term.now + 2

abbrev pub decreases-copy_last : goal.decreases-copy_last
decreases-copy_last l = 3 * nodes l.term.now + 1

abbrev pub decreases-copy_items : goal.decreases-copy_items
decreases-copy_items l = 3 * row_nodes (row_of l.items.now) + 3

abbrev pub invariant-copy_items-loop-item : goal.invariant-copy_items-loop-item
invariant-copy_items-loop-item l = l.copies.items ≡ take l.item-index l.items

abbrev pub invariant-try_copy-loop-rest : goal.invariant-try_copy-loop-rest
invariant-try_copy-loop-rest l = record {
  kept : IsKept l.heads.items l.rest l.term;
  fewer : nodes l.rest ≤ nodes l.term;
}

abbrev pub invariant-try_copy-loop-head : goal.invariant-try_copy-loop-head
invariant-try_copy-loop-head l = IsKept l.heads.items l.copy l.term

abbrev pub decreases-try_copy-loop-rest : goal.decreases-try_copy-loop-rest
decreases-try_copy-loop-rest l = nodes l.rest

abbrev pub decreases-try_copy-loop-head : goal.decreases-try_copy-loop-head
decreases-try_copy-loop-head l = vec_len l.heads
