use Rattle.ca_order.proofs.FirstZero.{split_first, split_last}
use Rattle.ca_order.proofs.zeros.split_at_zero.Goals as goal

pub returns-in-Some : goal.returns-in-Some
returns-in-Some c = split_first c.args.bytes.now c.in-Some.zero c.in-Some.ensures.0 c.in-Some.ensures.1

pub returns-in-None : goal.returns-in-None
returns-in-None c = split_last c.args.bytes.now c.in-None.ensures
