use Rattle.std.proofs.Common.{◌≡◌, true}
use Rattle.ca_term.specs.Tree.{list_of, nodes}
use Rattle.ca_match.specs.Specification.{each_fault, is_proper}
use Rattle.ca_spec.proofs.compiler.each_guard.Given as goal

abbrev pub invariant-loop-guard : goal.invariant-loop-guard
invariant-loop-guard l = record {
  list_is : list_of l.guards.items l.rest ≡ l.list;
  well : each_fault l.head l.list ≡ each_fault l.head l.rest;
  proper : is_proper l.rest ≡ true;
}

abbrev pub decreases-loop-guard : goal.decreases-loop-guard
decreases-loop-guard l = nodes l.rest
