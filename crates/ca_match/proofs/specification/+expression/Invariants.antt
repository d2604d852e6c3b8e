-- The heads and elements so far are without a fault.
use Rattle.std.proofs.Common.{◌≡◌, ◌+◌, ◌*◌, ◌≤◌, drop}
use Rattle.ca_term.specs.Tree.{nodes, row_nodes, row_of}
use Rattle.ca_match.specs.Specification.{fault, faults}
use Rattle.ca_match.specs.SpecificationView.{part_of}
use Rattle.ca_match.proofs.specification.+expression.Given as goal

abbrev pub decreases-is_expression : goal.decreases-is_expression
decreases-is_expression l = 8 * nodes l.term.now

abbrev pub decreases-is_form : goal.decreases-is_form
decreases-is_form l = 8 * row_nodes (row_of l.items.now) + 7

abbrev pub decreases-is_inner_tuple : goal.decreases-is_inner_tuple
decreases-is_inner_tuple l = 8 * nodes l.only.now + 6

abbrev pub decreases-are_expressions : goal.decreases-are_expressions
decreases-are_expressions l = 8 * row_nodes (row_of l.items.now) + 5

abbrev pub decreases-is_call : goal.decreases-is_call
decreases-is_call l = 8 * row_nodes (row_of l.arguments.now) + 6

abbrev pub invariant-is_expression-loop-first : goal.invariant-is_expression-loop-first
invariant-is_expression-loop-first l = record {
  left : fault l.head (part_of l.part) l.term ≡ fault l.head (part_of l.part) l.rest;
  fewer : nodes l.rest ≤ nodes l.term;
}

abbrev pub decreases-is_expression-loop-first : goal.decreases-is_expression-loop-first
decreases-is_expression-loop-first l = nodes l.rest

abbrev pub invariant-are_expressions-loop-item : goal.invariant-are_expressions-loop-item
invariant-are_expressions-loop-item l =
    faults l.head (part_of l.part) (row_of l.items) ≡ faults l.head (part_of l.part) (row_of (drop l.item-index l.items))
