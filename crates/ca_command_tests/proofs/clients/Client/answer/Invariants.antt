use Rattle.std.proofs.Common.{◌≤◌}
use Rattle.ca_ets.specs.Command.{IsContinuation, continuation_of}
use Rattle.ca_command_tests.proofs.clients.Client.answer.Given as goal

abbrev pub invariant-loop-turn : goal.invariant-loop-turn
invariant-loop-turn g l = (1 ≤ l.budget) × IsContinuation (continuation_of l.cont)
