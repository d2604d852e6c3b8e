use Rattle.ca_order.proofs.NearZeros.{some_near}
use Rattle.ca_order.proofs.zeros.some_zero.Goals as goal

pub returns-in-Some : goal.returns-in-Some
returns-in-Some c = some_near c.args.bytes.now c.in-Some.near.now 32 c.zero_in.result c.in-Some.ensures.cases.0 c.zero_in.ensures
