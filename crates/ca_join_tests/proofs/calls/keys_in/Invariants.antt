use Rattle.std.proofs.Common.{◌≡◌, None}
use Rattle.ca_replace.specs.Resting.{knows}
use Rattle.ca_join_tests.proofs.calls.keys_in.Given as goal

abbrev pub invariant-loop-key : goal.invariant-loop-key
invariant-loop-key l = (l.store.store.z ≡ l.fn.store.store.z) × ((knows l.store).run ≡ None)
