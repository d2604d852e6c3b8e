-- The guards so far are without a fault.
use Rattle.std.proofs.Common.{◌≡◌, true}
use Rattle.ca_term.specs.Tree.{nodes}
use Rattle.ca_match.specs.Specification.{each_fault, is_proper}
use Rattle.ca_match.proofs.specification.are_guards.Given as goal

abbrev pub invariant-loop-guard : goal.invariant-loop-guard
invariant-loop-guard l = record {
  left : each_fault l.head l.list ≡ each_fault l.head l.rest;
  proper : is_proper l.rest ≡ true;
}

abbrev pub decreases-loop-guard : goal.decreases-loop-guard
decreases-loop-guard l = nodes l.rest
