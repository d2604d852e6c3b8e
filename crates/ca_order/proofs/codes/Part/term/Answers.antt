use Rattle.std.proofs.Common.{sym}
use Rattle.ca_order.proofs.CodeParts.{tree_is}
use Rattle.ca_order.proofs.codes.Part.term.Goals as goal

pub returns : goal.returns
returns c = sym (tree_is c.args.self.bytes.now c.args.self.code c.in-Ok.term c.kind-kind.ensures.bounded c.in-Ok.ensures.ok)
