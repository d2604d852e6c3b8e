-- The clauses so far don't hold.
use Rattle.std.proofs.Common.{◌≡◌}
use Rattle.ca_term.specs.Tree.{Nil, list_of}
use Rattle.ca_match.specs.Match.{result_of}
use Rattle.ca_order.specs.CodesView.{tree_of}
use Rattle.ca_spec.specs.ClauseView.{trees_of_clauses}
use Rattle.ca_spec.proofs.ClauseResults.{result_from}
use Rattle.ca_spec.proofs.on_codes.first_result.Given as goal

abbrev pub invariant-loop-clause : goal.invariant-loop-clause
invariant-loop-clause l =
    result_of (list_of (trees_of_clauses l.clauses) Nil) (tree_of l.object) ≡ result_from l.clauses (tree_of l.object) l.clause-index
