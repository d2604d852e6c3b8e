use Rattle.ca_order.proofs.CodeParts.{tree_is}
use Rattle.ca_order.proofs.codes.Part.of.Goals as goal

pub returns : goal.returns
returns c = λ t h e. tree_is c.args.code.now c.result-1.given.0 t h e
