use Rattle.ca_ets.specs.Command.{IsContinuation, continuation_of}
use Rattle.ca_client.proofs.Telling.{IsAt}
use Rattle.ca_client.proofs.playing.play.Given as goal

abbrev pub invariant-loop-at : goal.invariant-loop-at
invariant-loop-at g l = record {
  so_far : IsAt g.S.OrderedStore.knows g.S.OrderedStore.promises g.W.Follower.asked l.initial.table l.table (continuation_of l.cont) l.lines l.at l.answers;
  continuation : IsContinuation (continuation_of l.cont);
}
