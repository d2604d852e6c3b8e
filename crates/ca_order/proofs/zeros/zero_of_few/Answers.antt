use Rattle.ca_order.proofs.NearZeros.{some_near}
use Rattle.ca_order.proofs.zeros.zero_of_few.Goals as goal

pub returns-in-Some : goal.returns-in-Some
returns-in-Some c = some_near c.args.bytes.now c.in-Some.near.now 16 c.zero_among.result c.in-Some.ensures.cases.0 c.zero_among.ensures
