use Rattle.std.proofs.Common.{◌≡◌}
use Rattle.ca_model.specs.Runs.{IsOpen}
use Rattle.ca_replace.specs.Resting.{knows}
use Rattle.ca_tree_tests.proofs.range_clients.values_of.Given as goal

abbrev pub invariant-loop-key : goal.invariant-loop-key
invariant-loop-key l = (l.store.store.z ≡ l.fn.store.store.z) × IsOpen (knows l.store)
