-- The clauses so far are without a fault.
use Rattle.std.proofs.Common.{◌≡◌, true, is_none}
use Rattle.ca_term.specs.Tree.{nodes}
use Rattle.ca_match.specs.Specification.{clauses_fault, is_proper}
use Rattle.ca_match.proofs.specification.is_specification.Given as goal

abbrev pub invariant-loop-clause : goal.invariant-loop-clause
invariant-loop-clause l = record {
  proper : is_proper l.rest ≡ true;
  left : is_none (clauses_fault 1 l.term) ≡ is_none (clauses_fault 1 l.rest);
}

abbrev pub decreases-loop-clause : goal.decreases-loop-clause
decreases-loop-clause l = nodes l.rest
