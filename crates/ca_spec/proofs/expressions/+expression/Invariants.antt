use Rattle.std.proofs.Common.{◌≡◌, ◌+◌, ◌*◌, ◌≤◌, ◌<◌, take, drop, length}
use Rattle.ca_term.specs.Tree.{Cons, list_of, nodes, row_nodes, row_of}
use Rattle.ca_spec.specs.ScopeView.{fault_in, faults_in}
use Rattle.ca_spec.proofs.expressions.+expression.Given as goal

abbrev pub decreases-expression : goal.decreases-expression
decreases-expression l = 8 * nodes l.term.now

abbrev pub decreases-tuple : goal.decreases-tuple
decreases-tuple l = 8 * row_nodes (row_of l.items.now) + 7

abbrev pub decreases-inner_tuple : goal.decreases-inner_tuple
decreases-inner_tuple l = 8 * nodes l.only.now + 6

abbrev pub decreases-expressions : goal.decreases-expressions
decreases-expressions l = 8 * row_nodes (row_of l.items.now) + 7

abbrev pub decreases-call : goal.decreases-call
decreases-call l = 8 * row_nodes (row_of l.arguments.now) + 6

abbrev pub decreases-operation : goal.decreases-operation
decreases-operation l = 8 * row_nodes (row_of l.arguments.now) + 5

abbrev pub decreases-cells : goal.decreases-cells
decreases-cells l = 8 * (nodes l.first.now + nodes l.behind.now) + 7

abbrev pub invariant-expressions-loop-item : goal.invariant-expressions-loop-item
invariant-expressions-loop-item l = record {
  copied : l.expressions.items ≡ take l.item-index l.items;
  well : faults_in l.scope (row_of l.items) ≡ faults_in l.scope (row_of (drop l.item-index l.items));
}

abbrev pub invariant-cells-loop-head : goal.invariant-cells-loop-head
invariant-cells-loop-head l = record {
  list_is : list_of l.heads.items l.rest ≡ Cons l.first l.behind;
  well : fault_in l.scope (Cons l.first l.behind) ≡ fault_in l.scope l.rest;
  filled : 0 < length l.heads.items;
  fewer : nodes l.rest ≤ nodes l.behind;
}

abbrev pub decreases-cells-loop-head : goal.decreases-cells-loop-head
decreases-cells-loop-head l = nodes l.rest
