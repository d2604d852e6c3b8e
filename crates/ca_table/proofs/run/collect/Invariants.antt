use Rattle.std.proofs.Common.{length}
use Rattle.ca_table.specs.Collected.{left_of}
use Rattle.ca_table.specs.ResultsView.{results_of}
use Rattle.ca_table.specs.Made.{HasRead}
use Rattle.ca_table.proofs.Collecting.{IsCollecting}
use Rattle.ca_table.proofs.run.collect.Given as goal

-- the results of the objects that were handed out so far were collected, by reads alone
abbrev pub invariant-objects : goal.invariant-objects
invariant-objects g l = record {
  collecting : IsCollecting l.spec l.limit (g.S.OrderedStore.knows l.fn.store) (g.S.OrderedStore.knows l.store) (results_of l.collected.results) l.collected.last;
  read : HasRead g.S.OrderedStore.promises l.fn.store l.store;
}

-- the objects that the run has left
abbrev pub decreases-objects : goal.decreases-objects
decreases-objects g l = length (left_of (g.S.OrderedStore.knows l.store))
