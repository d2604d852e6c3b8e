use Rattle.std.proofs.Common.{◌++◌, ◌+◌, ◌*◌, ◌≤◌, drop, length}
use Rattle.ca_term.specs.Code.{code_of, row_code, four_bytes}
use Rattle.ca_term.specs.Tree.{nodes, row_nodes, row_of}
use Rattle.ca_order.proofs.Put.{IsPut}
use Rattle.ca_order.proofs.writing.+code.Given as goal

abbrev pub decreases-put_term : goal.decreases-put_term
decreases-put_term l = 2 * nodes l.term.now

abbrev pub decreases-put_row : goal.decreases-put_row
decreases-put_row l = 2 * row_nodes (row_of l.items.now) + 1

abbrev pub invariant-put_term-cells : goal.invariant-put_term-cells
invariant-put_term-cells l = record {
  put : IsPut l.into.items (code_of l.rest) l.initial.into.items (code_of l.term);
  fewer : nodes l.rest ≤ nodes l.term;
}

abbrev pub decreases-put_term-cells : goal.decreases-put_term-cells
decreases-put_term-cells l = nodes l.rest

abbrev pub invariant-put_row-loop-item : goal.invariant-put_row-loop-item
invariant-put_row-loop-item l =
    IsPut l.into.items (row_code (row_of (drop l.item-index l.items))) l.fn.into.items (four_bytes (length l.items) ++ row_code (row_of l.items))
