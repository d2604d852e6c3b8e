use Rattle.std.proofs.Common.{◌≡◌, None}
use Rattle.ca_replace.specs.Resting.{knows}
use Rattle.ca_tree_tests.proofs.range_tests.wrong_upper.Given as goal

abbrev pub invariant-loop-hi : goal.invariant-loop-hi
invariant-loop-hi l = (l.store.store.z ≡ l.fn.store.store.z) × ((knows l.store).run ≡ None)
