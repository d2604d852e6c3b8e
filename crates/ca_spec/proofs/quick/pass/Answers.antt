-- Each guard is told.
use Rattle.ca_spec.proofs.PlainClauses.{each_plain}
use Rattle.ca_spec.proofs.quick.pass.Goals as goal

pub returns-in_default-2-clause-told : goal.returns-in_default-2-clause-told
returns-in_default-2-clause-told c = λ head bound p.
    c.holds.ensures.told head bound
    (each_plain head c.args.guards.now c.loop-guard.guard-index c.guard-item.result c.loop-guard-test.true c.guard-item.is p)
