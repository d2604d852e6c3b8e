-- What is left to fit, from the bindings so far.
use Rattle.std.proofs.Common.{◌≡◌, ◌+◌, ◌*◌}
use Rattle.ca_term.specs.Tree.{list_of, nodes, row_nodes, row_of}
use Rattle.ca_match.specs.Match.{bind, bind_row}
use Rattle.ca_spec.specs.Bound.{table_of}
use Rattle.ca_spec.proofs.Binding.{cells_from, rows_from}
use Rattle.ca_spec.proofs.matching.+bind.Given as goal

abbrev pub decreases-bind : goal.decreases-bind
decreases-bind l = 3 * nodes l.pattern.now + 2

abbrev pub decreases-bind_all : goal.decreases-bind_all
decreases-bind_all l = 3 * row_nodes (row_of l.parts.now) + 3

abbrev pub decreases-bind_cells : goal.decreases-bind_cells
decreases-bind_cells l = 3 * nodes (list_of l.heads.now l.tail.now) + 1

abbrev pub invariant-bind_all-loop-i : goal.invariant-bind_all-loop-i
invariant-bind_all-loop-i l = bind_row (row_of l.parts) (row_of l.items) (table_of l.initial.table) ≡ rows_from l.parts l.items l.i (table_of l.table)

abbrev pub invariant-bind_cells-loop-head : goal.invariant-bind_cells-loop-head
invariant-bind_cells-loop-head l =
    bind (list_of l.heads l.tail) l.term (table_of l.initial.table) ≡ cells_from l.heads l.tail l.rest l.head-index (table_of l.table)
