use Rattle.ca_order.proofs.InFront.{others_are, others_there}
use Rattle.ca_order.proofs.codes.Codes.leaf.Goals as goal

pub invariant_of-result : goal.invariant_of-result
invariant_of-result c = record { terms = others_there c.args.self.bytes.now c.in_ok-leaf.rest.now 1 _ c.args.self.terms c.in_ok-leaf.ensures }

pub returns : goal.returns
returns c = others_are c.args.self.bytes.now c.in_ok-leaf.rest.now 1 _ c.args.self.terms c.in_ok-leaf.ensures c.result-1.given.0
