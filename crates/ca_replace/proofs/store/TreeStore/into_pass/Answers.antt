use Rattle.std.proofs.Common.{subst}
use Rattle.ca_replace.specs.Resting.{IsResting, StoreAndRun}
use Rattle.ca_replace.proofs.StoreCalls.{rests_first}
use Rattle.ca_replace.proofs.store.TreeStore.into_pass.Goals as goal

pub returns-clause-resting : goal.returns-clause-resting
returns-clause-resting c = subst (λ (s : StoreAndRun). IsResting s.store.table s.store.z c.self.inside.pass.number c.self.inside.pass.tally
    c.self.inside.pass.kept.rows c.self.inside.pass.seat) c.self.view_is
    (rests_first c.self.inside c.self.view_is c.requires.closed c.self.invariant)
