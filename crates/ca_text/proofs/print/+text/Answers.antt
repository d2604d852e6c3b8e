use Rattle.std.proofs.Common.{◌≡◌, ◌≤◌, ◌+◌, ◌++◌, List, arith, rules, refl, sym, ap, ◌∙◌, codes}
use Rattle.ca_term.specs.Tree.{Tree, Cons, nodes, row_nodes, row_of}
use Rattle.ca_term.proofs.Rows.{nodes_item}
use Rattle.ca_text.specs.Text.{text_of, tail_text}
use Rattle.ca_text.proofs.Fronts.{begins_itself, begins_on, on_same, written_two}
use Rattle.ca_text.proofs.Writing.{items_step, items_end, tail_step}
use Rattle.ca_text.proofs.print.+text.Goals as goal

pub put_items-put_term-requires-in-loop-item : goal.put_items-put_term-requires-in-loop-item
put_items-put_term-requires-in-loop-item t c =
    let within : nodes c.item-item.result ≤ row_nodes (row_of c.in-Some.others.now) =
    rw c.item-item.is (nodes_item c.in-Some.others.now c.loop-item.item-index c.item-item.result c.loop-item-test.true) in
    let whole : row_nodes (row_of c.args.items.now) ≡ nodes c.in-Some.first.now + row_nodes (row_of c.in-Some.others.now) =
    ap (λ (ts : List Tree). row_nodes (row_of ts)) c.in-Some.ensures.cases.0 in
    (omega (arith, c.decreases), tt)

pub put_items-loop-item-init : goal.put_items-loop-item-init
put_items-loop-item-init t c = record { text = refl; front = begins_itself _ }

pub put_items-returns-in_err-put-clause-front : goal.put_items-returns-in_err-put-clause-front
put_items-returns-in_err-put-clause-front t c = begins_on c.in_ok-put_term.ensures.front (begins_on c.loop-item.invariant.front c.in_err-put.ensures.front)

pub put_items-returns-in_err-put_term-2-clause-front : goal.put_items-returns-in_err-put_term-2-clause-front
put_items-returns-in_err-put_term-2-clause-front t c =
    begins_on (begins_on c.in_ok-put_term.ensures.front c.loop-item.invariant.front) (begins_on c.in_ok-put.ensures.front c.in_err-put_term-2.ensures.front)

pub put_items-loop-item-preserved : goal.put_items-loop-item-preserved
put_items-loop-item-preserved t c = record {
  text =
      items_step c.loop-item.into.items c.in-Some.others.now c.loop-item.item-index c.item-item.result c.loop-item-test.true c.item-item.is c.loop-item.invariant.text
      c.in_ok-put.ensures.ok c.in_ok-put_term-2.ensures.ok;
  front = begins_on c.loop-item.invariant.front (begins_on c.in_ok-put.ensures.front c.in_ok-put_term-2.ensures.front);
}

pub put_items-returns-clause-ok : goal.put_items-returns-clause-ok
put_items-returns-clause-ok t c =
    items_end c.args.into.now.items c.args.items.now c.in-Some.others.now c.in-Some.first.now c.loop-item.item-index c.loop-item-test.false c.in-Some.ensures.cases.0
    c.in_ok-put_term.ensures.ok c.loop-item.invariant.text

pub put_items-returns-clause-front : goal.put_items-returns-clause-front
put_items-returns-clause-front t c = begins_on c.in_ok-put_term.ensures.front c.loop-item.invariant.front

pub put_tail-loop-head-init : goal.put_tail-loop-head-init
put_tail-loop-head-init t c = record { text = refl; front = begins_itself _; fewer = omega arith }

pub put_tail-returns-in_err-put-clause-front : goal.put_tail-returns-in_err-put-clause-front
put_tail-returns-in_err-put-clause-front t c = begins_on c.loop-head.invariant.front c.in_err-put.ensures.front

pub put_tail-returns-in_err-put_term-clause-front : goal.put_tail-returns-in_err-put_term-clause-front
put_tail-returns-in_err-put_term-clause-front t c =
    begins_on c.loop-head.invariant.front (begins_on c.in_ok-put.ensures.front c.in_err-put_term.ensures.front)

pub put_tail-loop-head-preserved : goal.put_tail-loop-head-preserved
put_tail-loop-head-preserved t c =
    let is : c.loop-head.rest.now ≡ Cons c.in-Cons.head.now c.in-Cons.next.now = sym c.in-Cons.ensures.kind in
    record {
      text =
          tail_step c.loop-head.into.items c.loop-head.rest.now c.in-Cons.head.now c.in-Cons.next.now is c.loop-head.invariant.text c.in_ok-put.ensures.ok
          c.in_ok-put_term.ensures.ok;
      front = begins_on c.loop-head.invariant.front (begins_on c.in_ok-put.ensures.front c.in_ok-put_term.ensures.front);
      fewer = omega (arith, ap nodes is, c.loop-head.invariant.fewer);
    }

pub put_tail-returns-in_err-put-2 : goal.put_tail-returns-in_err-put-2
put_tail-returns-in_err-put-2 t c = record {
  ok = search rules;
  front = begins_on c.loop-head.invariant.front c.in_err-put-2.ensures.front;
}

pub put_tail-returns-in_err-put_term-2 : goal.put_tail-returns-in_err-put_term-2
put_tail-returns-in_err-put_term-2 t c = record {
  ok = search rules;
  front = begins_on c.loop-head.invariant.front (begins_on c.in_ok-put-2.ensures.front c.in_err-put_term-2.ensures.front);
}

pub put_term-returns-in_err-put_items-in-Tuple-clause-front : goal.put_term-returns-in_err-put_items-in-Tuple-clause-front
put_term-returns-in_err-put_items-in-Tuple-clause-front t c = begins_on c.in_ok-put-in-Tuple.ensures.front c.in_err-put_items-in-Tuple.ensures.front

pub put_term-returns-in_err-put_term-in-Cons-clause-front : goal.put_term-returns-in_err-put_term-in-Cons-clause-front
put_term-returns-in_err-put_term-in-Cons-clause-front t c = begins_on c.in_ok-put-in-Cons.ensures.front c.in_err-put_term-in-Cons.ensures.front

pub put_term-returns-in_ok-put_items-in-Tuple-clause-ok : goal.put_term-returns-in_ok-put_items-in-Tuple-clause-ok
put_term-returns-in_ok-put_items-in-Tuple-clause-ok t c =
    on_same c.put-in-Tuple.result c.put-in-Tuple.new.into.items
    (written_two _ _ _ (codes "}") c.in_ok-put-in-Tuple.ensures.ok c.in_ok-put_items-in-Tuple.ensures.ok
    ∙ ap (λ (x : Tree). c.args.into.now.items ++ text_of x) c.in-Tuple.ensures.kind)
    c.put-in-Tuple.ensures.ok

pub put_term-returns-in_ok-put_items-in-Tuple-clause-front : goal.put_term-returns-in_ok-put_items-in-Tuple-clause-front
put_term-returns-in_ok-put_items-in-Tuple-clause-front t c =
    begins_on (begins_on c.in_ok-put-in-Tuple.ensures.front c.in_ok-put_items-in-Tuple.ensures.front) c.put-in-Tuple.ensures.front

pub put_term-returns-in_ok-put_term-in-Cons-clause-ok : goal.put_term-returns-in_ok-put_term-in-Cons-clause-ok
put_term-returns-in_ok-put_term-in-Cons-clause-ok t c =
    on_same c.put_tail.result c.put_tail.new.into.items
    (written_two _ _ _ (tail_text c.in-Cons.tail.now) c.in_ok-put-in-Cons.ensures.ok c.in_ok-put_term-in-Cons.ensures.ok
    ∙ ap (λ (x : Tree). c.args.into.now.items ++ text_of x) c.in-Cons.ensures.kind)
    c.put_tail.ensures.ok

pub put_term-returns-in_ok-put_term-in-Cons-clause-front : goal.put_term-returns-in_ok-put_term-in-Cons-clause-front
put_term-returns-in_ok-put_term-in-Cons-clause-front t c =
    begins_on (begins_on c.in_ok-put-in-Cons.ensures.front c.in_ok-put_term-in-Cons.ensures.front) c.put_tail.ensures.front
