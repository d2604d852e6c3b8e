use Rattle.std.proofs.Common.{refl}
use Rattle.ca_order.proofs.ZeroLanes.{lowest_zero}
use Rattle.ca_order.proofs.zeros.zero_among.Goals as goal

pub returns : goal.returns
returns c = lowest_zero c.args.near.now _ c.told-near refl c.if-zeros-eq0.false
