use Rattle.std.proofs.Common.{arith}
use Rattle.ca_range.proofs.Noting.{helped_met}
use Rattle.ca_range.proofs.watching.finish.Goals as goal

pub returns-clause-met : goal.returns-clause-met
returns-clause-met g c = let hi = c.requires.owner.2 in
    helped_met c.args.account.now.met.numbers c.args.pass.now.seat.me c.decide_for.new.pass.seat.me c.decide_for.result g.K.Finishing.pass c.args.range.owner
    g.K.Finishing.number _ c.requires.owner.0 (omega arith) c.decide_for.ensures.done c.requires.met
