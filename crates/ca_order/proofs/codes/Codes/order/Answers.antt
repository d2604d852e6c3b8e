use Rattle.ca_order.proofs.CodeParts.{first_as_terms}
use Rattle.ca_order.proofs.codes.Codes.order.Goals as goal

pub returns : goal.returns
returns c = λ first others is.
    first_as_terms c.args.self.bytes.now c.args.part.bytes.now c.args.self.terms c.args.part.code c.order_of_front.result first others
    c.order_of_front.ensures is
