use Rattle.ca_ets.specs.Command.{IsContinuation, continuation_of}
use Rattle.ca_store_tests.proofs.list_tests.two_clients_take_batches_in_turn.Given as goal

abbrev pub invariant-loop-first : goal.invariant-loop-first
invariant-loop-first g l = record {
  one : IsContinuation (continuation_of l.one);
  two : IsContinuation (continuation_of l.two);
}
