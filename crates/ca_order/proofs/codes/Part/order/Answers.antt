use Rattle.ca_order.proofs.CodeParts.{as_terms}
use Rattle.ca_order.proofs.codes.Part.order.Goals as goal

pub returns : goal.returns
returns c =
    as_terms c.args.self.bytes.now c.args.other.bytes.now c.args.self.code c.args.other.code
    c.order_of.result c.order_of.ensures
