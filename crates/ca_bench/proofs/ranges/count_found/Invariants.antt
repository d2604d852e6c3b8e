use Rattle.std.proofs.Common.{◌≡◌}
use Rattle.ca_model.specs.Runs.{IsOpen}
use Rattle.ca_replace.specs.Resting.{knows}
use Rattle.ca_bench.proofs.ranges.count_found.Given as goal

abbrev pub invariant-loop-count : goal.invariant-loop-count
invariant-loop-count l = (l.store.store.z ≡ l.fn.store.store.z) × IsOpen (knows l.store)
