use Rattle.std.proofs.Common.{◌≡◌, ◌+◌, ◌*◌, ◌≤◌, ◌<◌, take, drop, length}
use Rattle.ca_term.specs.Tree.{Cons, list_of, nodes, row_nodes, row_of}
use Rattle.ca_spec.specs.Held.{with_variables, with_row}
use Rattle.ca_spec.proofs.heads.+part.Given as goal

abbrev pub decreases-part : goal.decreases-part
decreases-part l = 2 * nodes l.term.now

abbrev pub decreases-parts : goal.decreases-parts
decreases-parts l = 2 * row_nodes (row_of l.items.now) + 1

abbrev pub decreases-cells : goal.decreases-cells
decreases-cells l = 2 * (nodes l.first.now + nodes l.behind.now) + 1

abbrev pub invariant-parts-loop-item : goal.invariant-parts-loop-item
invariant-parts-loop-item l = record {
  copied : l.patterns.items ≡ take l.item-index l.items;
  met : with_row (row_of (drop l.item-index l.items)) l.variables ≡ with_row (row_of l.items) l.initial.variables;
}

abbrev pub invariant-cells-loop-head : goal.invariant-cells-loop-head
invariant-cells-loop-head l = record {
  list_is : list_of l.heads.items l.rest ≡ Cons l.first l.behind;
  met : with_variables l.rest l.variables ≡ with_variables l.behind l.initial.variables;
  filled : 0 < length l.heads.items;
  fewer : nodes l.rest ≤ nodes l.behind;
}

abbrev pub decreases-cells-loop-head : goal.decreases-cells-loop-head
decreases-cells-loop-head l = nodes l.rest
