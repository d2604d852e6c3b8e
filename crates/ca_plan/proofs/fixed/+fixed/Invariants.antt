-- The heads and elements so far hold no variable and no '_'.
use Rattle.std.proofs.Common.{◌≡◌, ◌+◌, ◌*◌, ◌≤◌}
use Rattle.ca_term.specs.Tree.{nodes, row_nodes, row_of}
use Rattle.ca_plan.specs.Plan.{is_fixed, is_fixed_row}
use Rattle.ca_plan.proofs.Rows.{fixed_from}
use Rattle.ca_plan.proofs.fixed.+fixed.Given as goal

abbrev pub decreases-is_fixed : goal.decreases-is_fixed
decreases-is_fixed l = 2 * nodes l.part.now

abbrev pub decreases-are_fixed : goal.decreases-are_fixed
decreases-are_fixed l = 2 * row_nodes (row_of l.items.now) + 1

abbrev pub invariant-is_fixed-loop-head : goal.invariant-is_fixed-loop-head
invariant-is_fixed-loop-head l = record {
  left : is_fixed l.part ≡ is_fixed l.rest;
  fewer : nodes l.rest ≤ nodes l.part;
}

abbrev pub decreases-is_fixed-loop-head : goal.decreases-is_fixed-loop-head
decreases-is_fixed-loop-head l = nodes l.rest

abbrev pub invariant-are_fixed-loop-item : goal.invariant-are_fixed-loop-item
invariant-are_fixed-loop-item l = is_fixed_row (row_of l.items) ≡ fixed_from l.items l.item-index
