use Rattle.std.proofs.Common.{◌≡◌, ◌+◌, length, true}
use Rattle.ca_term.specs.Tree.{list_of, nodes}
use Rattle.ca_match.specs.Specification.{clauses_fault, is_proper}
use Rattle.ca_spec.specs.ClauseView.{trees_of_clauses}
use Rattle.ca_spec.proofs.compiler.clauses.Given as goal

abbrev pub invariant-loop-first : goal.invariant-loop-first
invariant-loop-first l = record {
  list_is : list_of (trees_of_clauses l.clauses.items) l.rest ≡ l.list;
  well : clauses_fault 1 l.list ≡ clauses_fault (length l.clauses.items + 1) l.rest;
  proper : is_proper l.rest ≡ true;
}

abbrev pub decreases-loop-first : goal.decreases-loop-first
decreases-loop-first l = nodes l.rest
