use Rattle.ca_order.proofs.CodeParts.{one, one_is}
use Rattle.ca_order.proofs.codes.Codes.of.Goals as goal

pub invariant_of-result : goal.invariant_of-result
invariant_of-result c = record { terms = one c.args.part.bytes.now c.args.part.code }

pub returns : goal.returns
returns c = one_is c.args.part.bytes.now c.args.part.code c.result-2-1.given.0
