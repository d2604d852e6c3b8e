use Rattle.ca_ets.specs.Command.{IsContinuation, continuation_of}
use Rattle.ca_bench.proofs.walks.take_batches.Given as goal

abbrev pub invariant-loop : goal.invariant-loop
invariant-loop l = record { continuation : IsContinuation (continuation_of l.cont) }
