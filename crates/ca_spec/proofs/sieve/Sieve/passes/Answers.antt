use Rattle.std.proofs.Common.{ap, sym, ◌∙◌, arith, ◌∷◌, [], length, length-append}
use Rattle.ca_term.specs.Tree.{Tree}
use Rattle.ca_order.specs.CodesView.{terms_of}
use Rattle.ca_spec.specs.PartBound.{others}
use Rattle.ca_spec.proofs.CodeBinding.{left_step, some_left}
use Rattle.ca_spec.proofs.Sieves.{element_passes}
use Rattle.ca_spec.proofs.sieve.Sieve.passes.Goals as goal

pub loop-preserved : goal.loop-preserved
loop-preserved c =
    left_step (terms_of c.in-Some.inside) (terms_of c.loop.left) (terms_of c.split.result.1) c.loop.counter c.loop.invariant
    (sym (ap others c.split.ensures))

pub returns : goal.returns
returns c = λ object bounded is.
    let o = c.in-Some.ensures in
    let some = some_left (terms_of c.in-Some.inside) (terms_of c.loop.left) c.in-Some.count c.loop.counter
    (omega (arith, c.loop.auto.counter-end, c.if-count-self.false))
    (omega (arith, o.many, ap length o.inside_is, length-append o.items o.others)) c.loop.invariant in
    element_passes c.args.self object (terms_of c.of-2.result) (terms_of c.in-Some.inside) (terms_of c.loop.left) c.in-Some.count c.loop.counter
    c.order.result c.has.result (c.of-2.ensures ∙ ap (λ (x : Tree). x ∷ []) (c.of.ensures object bounded is)) o c.loop.invariant
    (omega (arith, c.loop.auto.counter-end, c.loop-test.false)) some c.order.ensures c.has.ensures
