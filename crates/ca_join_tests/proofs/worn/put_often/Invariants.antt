use Rattle.std.proofs.Common.{◌≡◌, None}
use Rattle.ca_replace.specs.Resting.{knows}
use Rattle.ca_join_tests.proofs.worn.put_often.Given as goal

abbrev pub invariant-loop-time : goal.invariant-loop-time
invariant-loop-time l = (l.store.store.z ≡ l.fn.store.store.z) × ((knows l.store).run ≡ None)
