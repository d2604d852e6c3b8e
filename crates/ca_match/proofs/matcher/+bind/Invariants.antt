use Rattle.std.proofs.Common.{◌≡◌, ◌+◌, ◌*◌, ◌≤◌}
use Rattle.ca_term.specs.Tree.{nodes, row_nodes, row_of}
use Rattle.ca_match.specs.Match.{bind, bind_row}
use Rattle.ca_match.specs.MatcherView.{bindings_of}
use Rattle.ca_match.proofs.Heads.{rows_from}
use Rattle.ca_match.proofs.matcher.+bind.Given as goal

abbrev pub decreases-bind : goal.decreases-bind
decreases-bind l = 2 * nodes l.part.now

abbrev pub decreases-bind_all : goal.decreases-bind_all
decreases-bind_all l = 2 * row_nodes (row_of l.parts.now) + 1

abbrev pub invariant-bind-loop-head : goal.invariant-bind-loop-head
invariant-bind-loop-head l = record {
  bound_so : bind l.part l.term (bindings_of l.initial.table) ≡ bind l.own l.rest (bindings_of l.table);
  fewer : nodes l.own ≤ nodes l.part;
}

abbrev pub decreases-bind-loop-head : goal.decreases-bind-loop-head
decreases-bind-loop-head l = nodes l.own

abbrev pub invariant-bind_all-loop-i : goal.invariant-bind_all-loop-i
invariant-bind_all-loop-i l =
    bind_row (row_of l.parts) (row_of l.items) (bindings_of l.initial.table) ≡ rows_from l.parts l.items l.i (bindings_of l.table)
