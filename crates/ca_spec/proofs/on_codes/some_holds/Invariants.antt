-- The clauses so far have no result.
use Rattle.std.proofs.Common.{length}
use Rattle.ca_order.specs.CodesView.{tree_of}
use Rattle.ca_spec.proofs.LeftClauses.{IsLeft}
use Rattle.ca_spec.proofs.on_codes.some_holds.Given as goal

abbrev pub invariant-loop-clause : goal.invariant-loop-clause
invariant-loop-clause l = IsLeft l.clauses l.left (tree_of l.object)

abbrev pub decreases-loop-clause : goal.decreases-loop-clause
decreases-loop-clause l = length l.left
