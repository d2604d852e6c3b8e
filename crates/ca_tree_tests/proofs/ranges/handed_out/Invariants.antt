use Rattle.std.proofs.Common.{◌≡◌}
use Rattle.ca_model.specs.Runs.{IsOpen}
use Rattle.ca_replace.specs.Resting.{knows}
use Rattle.ca_tree_tests.proofs.ranges.handed_out.Given as goal

abbrev pub invariant-loop : goal.invariant-loop
invariant-loop l = (l.store.store.z ≡ l.fn.store.store.z) × IsOpen (knows l.store)
