use Rattle.std.proofs.Common.{◌≡◌, None}
use Rattle.ca_replace.specs.Resting.{knows}
use Rattle.ca_tree_tests.proofs.scripts.tally.Given as goal

abbrev pub invariant-loop-n : goal.invariant-loop-n
invariant-loop-n l = (l.store.store.z ≡ l.fn.store.store.z) × ((knows l.store).run ≡ None)
