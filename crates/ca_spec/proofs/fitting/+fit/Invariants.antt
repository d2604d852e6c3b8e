-- What is left to fit, from the bindings so far.
use Rattle.std.proofs.Common.{◌≡◌, ◌≤◌, ◌+◌, ◌*◌, drop, length}
use Rattle.ca_term.specs.Tree.{list_of, nodes, row_nodes, row_of}
use Rattle.ca_order.specs.CodesView.{terms_of}
use Rattle.ca_spec.specs.PartBound.{others, parts_of}
use Rattle.ca_spec.proofs.CodeBinding.{from_cell, from_place}
use Rattle.ca_spec.proofs.fitting.+fit.Given as goal

abbrev pub decreases-fit : goal.decreases-fit
decreases-fit l = 3 * nodes l.pattern.now + 2

abbrev pub decreases-fit_all : goal.decreases-fit_all
decreases-fit_all l = 3 * row_nodes (row_of l.parts.now) + 3

abbrev pub decreases-fit_tuple : goal.decreases-fit_tuple
decreases-fit_tuple l = 3 * row_nodes (row_of l.parts.now) + 4

abbrev pub invariant-fit_all-loop-part : goal.invariant-fit_all-loop-part
invariant-fit_all-loop-part l = record {
  told : from_place l.parts (terms_of l.codes) l.count 0 (parts_of l.initial.table)
      ≡ from_place l.parts (terms_of l.codes) l.count l.part-index (parts_of l.table);
  left : terms_of l.rest ≡ drop l.part-index (terms_of l.codes);
}

abbrev pub decreases-fit_cells : goal.decreases-fit_cells
decreases-fit_cells l = 3 * nodes (list_of l.heads.now l.tail.now) + 1

abbrev pub invariant-fit_cells-loop-head : goal.invariant-fit_cells-loop-head
invariant-fit_cells-loop-head l = record {
  told : from_cell l.heads l.tail (terms_of l.initial.codes) 0 (parts_of l.initial.table)
      ≡ from_cell l.heads l.tail (terms_of l.codes) l.head-index (parts_of l.table);
  left : others (terms_of l.codes) ≡ others (terms_of l.initial.codes);
  there : 1 ≤ length (terms_of l.codes);
}
