use Rattle.std.proofs.Common.{◌≤◌}
use Rattle.ca_ets.specs.Command.{IsContinuation, continuation_of}
use Rattle.ca_bench.proofs.stores.play_one.Given as goal

abbrev pub invariant-loop : goal.invariant-loop
invariant-loop g l = record {
  continuation : IsContinuation (continuation_of l.cont);
  budget : 1 ≤ l.budget;
}
