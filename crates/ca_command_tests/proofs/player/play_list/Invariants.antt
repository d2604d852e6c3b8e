use Rattle.ca_ets.specs.Command.{IsContinuation, continuation_of}
use Rattle.ca_command_tests.proofs.player.play_list.Given as goal

abbrev pub invariant-loop-line : goal.invariant-loop-line
invariant-loop-line l = record { continuation : IsContinuation (continuation_of l.cont) }
