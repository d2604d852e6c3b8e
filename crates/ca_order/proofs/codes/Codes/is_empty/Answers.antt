use Rattle.ca_order.proofs.InFront.{both_none}
use Rattle.ca_order.proofs.codes.Codes.is_empty.Goals as goal

pub returns : goal.returns
returns c = both_none c.args.self.bytes.now c.args.self.terms c.is_empty.result c.is_empty.ensures
