use Rattle.std.proofs.Common.{◌≡◌, None}
use Rattle.ca_replace.specs.Resting.{knows}
use Rattle.ca_join_tests.proofs.growing.rounds.Given as goal

abbrev pub invariant-loop-round : goal.invariant-loop-round
invariant-loop-round l = (l.store.store.z ≡ l.fn.store.store.z) × ((knows l.store).run ≡ None)
