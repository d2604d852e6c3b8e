use Rattle.ca_order.proofs.NearZeros.{zero_near}
use Rattle.ca_order.proofs.zeros.near_zero.Goals as goal

pub returns-in-Some-zero_among : goal.returns-in-Some-zero_among
returns-in-Some-zero_among c =
    zero_near c.args.bytes.now c.in-Some.near.now 16 c.in-Some-zero_among.at c.in-Some.ensures.cases.0 c.in-Some-zero_among.ensures
