use Rattle.std.proofs.Common.{rules, arith, ◌≡◌, ap, sym, ◌∙◌}
use Rattle.ca_term.specs.Tree.{nodes, row_of, Cons, Tuple}
use Rattle.ca_term.specs.View.{tree_of}
use Rattle.ca_term.specs.declared.term.Cell.{Cell}
use Rattle.ca_term.proofs.Rows.{items_fewer}
use Rattle.ca_term.proofs.term.Term.+drop.Goals as goal

pub drop-head-requires : goal.drop-head-requires
drop-head-requires t c =
    let e : c.loop-cell.self ≡ Cons c.in-Cons.cell.value.head c.in-Cons.cell.value.tail = sym c.self.view_is ∙ ap tree_of c.in-Cons.is in
    let n : nodes c.loop-cell.self ≡ nodes (Cons c.in-Cons.cell.value.head c.in-Cons.cell.value.tail) = ap nodes e in
    let h : nodes c.into_inner-head.result.head ≡ nodes c.in-Cons.cell.value.head = ap (λ (x : Cell). nodes x.head) c.into_inner-head.ensures in
    (omega (arith, h, n, c.decreases, c.loop-cell.invariant), tt)

pub drop-items-requires : goal.drop-items-requires
drop-items-requires t c κs =
    let e : c.loop-cell.self ≡ Tuple (row_of c.in-Tuple._items.items) = sym c.self.view_is ∙ ap tree_of c.in-Tuple.is in
    let n : nodes c.loop-cell.self ≡ nodes (Tuple (row_of c.in-Tuple._items.items)) = ap nodes e in
    (((omega (arith, items_fewer c.in-Tuple._items.items, n, c.decreases, c.loop-cell.invariant), tt), tt), search rules)
