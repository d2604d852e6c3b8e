use Rattle.ca_ets.specs.Command.{IsContinuation, continuation_of}
use Rattle.ca_bench.proofs.stores.play.Given as goal

abbrev pub invariant-loop-cmd : goal.invariant-loop-cmd
invariant-loop-cmd g l = record { continuation : IsContinuation (continuation_of l.cont) }
