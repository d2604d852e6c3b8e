use Rattle.std.proofs.Common.{arith}
use Rattle.ca_order.specs.CodesView.{terms_of}
use Rattle.ca_text.proofs.Fronts.{begins_itself, begins_on}
use Rattle.ca_cmd.proofs.Coding.{along_bar, along_none, elements_left, elements_nodes, elements_on, elements_one, opened_many, opened_nodes}
use Rattle.ca_cmd.proofs.coded.+coded.Goals as goal

pub put_tail-loop-inside-init : goal.put_tail-loop-inside-init
put_tail-loop-inside-init t c = record { along = along_none (terms_of c.args.codes) c.args.into.now.items c.requires; front = begins_itself _ }

pub put_tail-returns-clause-ok : goal.put_tail-returns-clause-ok
put_tail-returns-clause-ok t c =
    along_bar (terms_of c.args.codes) (terms_of c.loop-inside.tail) (terms_of c.in_ok-behind.behind) c.args.into.now.items c.loop-inside.into.items
    c.loop-inside.invariant.along c.in_default.ensures c.in_default-behind_nil.ensures c.in_ok-put-3.ensures.ok c.in_ok-behind.ensures.ok c.in_ok-put-4.ensures.ok

pub put_elements-loop-at-init : goal.put_elements-loop-at-init
put_elements-loop-at-init t c = record {
  elements = elements_one (terms_of c.args.codes) _ c.args.into.now.items c.in_ok-left.ensures.ok;
  front = c.in_ok-left.ensures.front;
}

pub put_elements-returns-in_err-put-clause-front : goal.put_elements-returns-in_err-put-clause-front
put_elements-returns-in_err-put-clause-front t c = begins_on c.loop-at.invariant.front c.in_err-put.ensures.front

pub put_elements-returns-in_err-left-2-clause-front : goal.put_elements-returns-in_err-left-2-clause-front
put_elements-returns-in_err-left-2-clause-front t c = begins_on c.loop-at.invariant.front (begins_on c.in_ok-put.ensures.front c.in_err-left-2.ensures.front)

pub put_elements-put_first-requires-in-loop-at : goal.put_elements-put_first-requires-in-loop-at
put_elements-put_first-requires-in-loop-at t c =
    let fewer = elements_nodes _ _ c.loop-at._at _ _ c.loop-at.invariant.elements in
    let some = elements_left _ _ c.loop-at._at _ _ c.loop-at.invariant.elements (omega arith) in
    (omega (arith, c.decreases, fewer), some)

pub put_elements-loop-at-preserved : goal.put_elements-loop-at-preserved
put_elements-loop-at-preserved t c = record {
  elements =
      elements_on _ _ c.loop-at._at _ _ c.loop-at.invariant.elements (terms_of c.in_ok-left-2.left) c.in_ok-put.ensures.ok c.in_ok-left-2.ensures.ok;
  front = begins_on c.loop-at.invariant.front (begins_on c.in_ok-put.ensures.front c.in_ok-left-2.ensures.front);
}

pub put_first-put_elements-requires : goal.put_first-put_elements-requires
put_first-put_elements-requires t c =
    let inside = terms_of c.in-Some-open_tuple.inside in
    let fewer = opened_nodes (terms_of c.args.codes) inside c.in-Some-open_tuple.count c.in-Some-open_tuple.ensures in
    let many = opened_many (terms_of c.args.codes) inside c.in-Some-open_tuple.count c.in-Some-open_tuple.ensures in
    (omega (arith, c.decreases, fewer), many)
