use Rattle.ca_table.proofs.Asked.{asked_is}
use Rattle.ca_table.proofs.codes.asked_element.Goals as goal

pub returns : goal.returns
returns c = asked_is c.args.keypos c.args.op.now c.element.result c.kind-kind.ensures.bounded c.element.ensures
