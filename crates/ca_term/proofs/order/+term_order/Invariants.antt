use Rattle.std.proofs.Common.{◌≡◌, ◌≤◌, drop}
use Rattle.ca_term.specs.Order.{row_cmp, term_cmp}
use Rattle.ca_term.specs.Tree.{row_of, nodes}
use Rattle.ca_term.proofs.order.+term_order.Given as goal

abbrev pub decreases-term_order : goal.decreases-term_order
decreases-term_order l = nodes l.a.now

abbrev pub invariant-cells : goal.invariant-cells
invariant-cells l = record {
  same : term_cmp l.left l.right ≡ term_cmp l.a l.b;
  fewer : nodes l.left ≤ nodes l.a;
}

abbrev pub decreases-cells : goal.decreases-cells
decreases-cells l = nodes l.left

abbrev pub invariant-loop-i : goal.invariant-loop-i
invariant-loop-i l = row_cmp (row_of (drop l.i l.r)) (row_of (drop l.i l.s)) ≡ row_cmp (row_of l.r) (row_of l.s)
