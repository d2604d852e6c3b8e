use Rattle.std.proofs.Common.{◌≡◌, ◌≤◌, length, ap, sym, ◌∙◌, arith, rules}
use Rattle.ca_term.specs.Order.{term_cmp, row_cmp}
use Rattle.ca_term.specs.Tree.{row_of, row_nodes, nodes, Tuple}
use Rattle.ca_term.proofs.Rows.{nodes_item, row_cmp_found, tuple_cmp_same, same_size}
use Rattle.ca_term.proofs.order.+term_order.Goals as goal

pub returns-in_default-term_order : goal.returns-in_default-term_order
returns-in_default-term_order t c =
    let r = c.in-Tuple-Tuple.r.now in
    let s = c.in-Tuple-Tuple.s.now in
    let found : c.term_order.result ≡ row_cmp (row_of r) (row_of s) =
    row_cmp_found r s c.loop-i.i c.index-r-i.result c.index-s-i.result c.term_order.result (omega arith)
    (omega (arith, same_size (length r) (length s) c.in-Equal.ensures)) c.loop-i.invariant
    (cc) c.in_default-term_order.not-Equal in
    let same : term_cmp (Tuple (row_of r)) (Tuple (row_of s)) ≡ row_cmp (row_of r) (row_of s) = search (rules, tuple_cmp_same) in
    let here : c.term_order.result ≡ term_cmp c.cells.left.now c.cells.right.now =
    rw (← c.in-Tuple-Tuple.ensures.kind, ← c.in-Tuple-Tuple.ensures'.kind) (found ∙ sym same) in
    here ∙ c.cells.invariant.same

pub term_order-requires : goal.term_order-requires
term_order-requires t c =
    let left : c.cells.left.now ≡ Tuple (row_of c.in-Tuple-Tuple.r.now) = sym c.in-Tuple-Tuple.ensures.kind in
    let item : nodes c.index-r-i.result ≤ row_nodes (row_of c.in-Tuple-Tuple.r.now) =
    rw c.index-r-i.is (nodes_item c.in-Tuple-Tuple.r.now c.loop-i.i c.index-r-i.result c.loop-i-test.true) in
    (omega (arith, item, ap nodes left, c.cells.invariant.fewer, c.decreases), tt)
