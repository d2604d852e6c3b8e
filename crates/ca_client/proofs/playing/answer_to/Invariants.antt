use Rattle.std.proofs.Common.{◌≡◌, ◌≤◌}
use Rattle.ca_ets.specs.Command.{IsContinuation, continuation_of}
use Rattle.ca_client.proofs.Chain.{AreTries}
use Rattle.ca_client.proofs.Trying.{IsTried}
use Rattle.ca_client.proofs.playing.answer_to.Given as goal

abbrev pub invariant-loop : goal.invariant-loop
invariant-loop g l = record {
  tried : IsTried (g.S.OrderedStore.knows l.initial.table) (g.S.OrderedStore.knows l.table) l.budget l.waits;
  made : AreTries g.S.OrderedStore.knows g.S.OrderedStore.promises g.W.Follower.asked l.cmd l.initial.table l.table;
  stays : continuation_of l.cont ≡ continuation_of l.initial.cont;
  continuation : IsContinuation (continuation_of l.cont);
  budget : 1 ≤ l.budget;
  few : l.waits ≤ 1000;
}
