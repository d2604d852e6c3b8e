use Rattle.ca_order.proofs.CodeParts.{equal_terms}
use Rattle.ca_order.proofs.codes.Part.same.Goals as goal

pub returns : goal.returns
returns c = equal_terms c.args.self.bytes.now c.args.other.bytes.now c.args.self.code c.args.other.code c.eq.result c.eq.ensures
