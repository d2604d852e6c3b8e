-- The heads and elements so far don't hold the variable.
use Rattle.std.proofs.Common.{◌≡◌, ◌+◌, ◌*◌, ◌≤◌, drop}
use Rattle.ca_term.specs.Tree.{nodes, row_nodes, row_of}
use Rattle.ca_match.specs.Specification.{holds, row_holds}
use Rattle.ca_match.proofs.specification.+holds.Given as goal

abbrev pub decreases-holds : goal.decreases-holds
decreases-holds l = 2 * nodes l.head.now

abbrev pub decreases-any_holds : goal.decreases-any_holds
decreases-any_holds l = 2 * row_nodes (row_of l.items.now) + 1

abbrev pub invariant-holds-loop-first : goal.invariant-holds-loop-first
invariant-holds-loop-first l = record {
  left : holds l.number l.head ≡ holds l.number l.rest;
  fewer : nodes l.rest ≤ nodes l.head;
}

abbrev pub decreases-holds-loop-first : goal.decreases-holds-loop-first
decreases-holds-loop-first l = nodes l.rest

abbrev pub invariant-any_holds-loop-item : goal.invariant-any_holds-loop-item
invariant-any_holds-loop-item l = row_holds l.number (row_of l.items) ≡ row_holds l.number (row_of (drop l.item-index l.items))
