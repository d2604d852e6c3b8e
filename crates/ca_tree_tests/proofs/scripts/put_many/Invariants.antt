use Rattle.std.proofs.Common.{◌≡◌, None}
use Rattle.ca_replace.specs.Resting.{knows}
use Rattle.ca_tree_tests.proofs.scripts.put_many.Given as goal

abbrev pub invariant-loop-done : goal.invariant-loop-done
invariant-loop-done l = (l.store.store.z ≡ l.fn.store.store.z) × ((knows l.store).run ≡ None)
