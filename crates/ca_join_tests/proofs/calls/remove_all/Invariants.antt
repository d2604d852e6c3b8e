use Rattle.std.proofs.Common.{◌≡◌, None}
use Rattle.ca_replace.specs.Resting.{knows}
use Rattle.ca_join_tests.proofs.calls.remove_all.Given as goal

abbrev pub invariant-loop-place : goal.invariant-loop-place
invariant-loop-place l = (l.store.store.z ≡ l.fn.store.store.z) × ((knows l.store).run ≡ None)
