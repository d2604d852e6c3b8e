use Rattle.ca_term.specs.Tree.{Nil}
use Rattle.ca_order.proofs.InFront.{nil_there, no_nil_there, other_nil, others_are, others_there}
use Rattle.ca_order.proofs.codes.Codes.behind_nil.Goals as goal

pub returns-in_err-tag : goal.returns-in_err-tag
returns-in_err-tag c = rw c.from_residual.ensures (no_nil_there c.args.self.bytes.now c.args.self.terms c.in_err-tag.ensures.cases)

pub returns-then-tag-ne-NIL : goal.returns-then-tag-ne-NIL
returns-then-tag-ne-NIL c =
    other_nil c.args.self.bytes.now c.in_ok-tag.rest.now c.in_ok-tag.tag.now c.args.self.terms c.in_ok-tag.ensures.cases.0 c.if-tag-ne-NIL.true

pub invariant_of-result : goal.invariant_of-result
invariant_of-result c = record {
  terms = others_there c.args.self.bytes.now c.in_ok-tag.rest.now 1 Nil c.args.self.terms
      (nil_there c.in_ok-tag.tag.now c.args.self.bytes.now c.in_ok-tag.rest.now c.in_ok-tag.ensures.cases.0 c.if-tag-ne-NIL.false);
}

pub returns : goal.returns
returns c =
    others_are c.args.self.bytes.now c.in_ok-tag.rest.now 1 Nil c.args.self.terms
    (nil_there c.in_ok-tag.tag.now c.args.self.bytes.now c.in_ok-tag.rest.now c.in_ok-tag.ensures.cases.0 c.if-tag-ne-NIL.false)
    c.result-1.given.0
