-- A clause that holds, and one for which memory lacked.
use Rattle.std.proofs.Common.{ap, sym, ◌∙◌, subst}
use Rattle.std.specs.Prelude.{option_map}
use Rattle.ca_match.specs.Match.{clause_result}
use Rattle.ca_order.specs.CodesView.{tree_of}
use Rattle.ca_spec.specs.ClauseView.{tree_of_clause}
use Rattle.ca_spec.specs.FoundView.{tree_of_found}
use Rattle.ca_spec.specs.Reached.{HeadMayFit}
use Rattle.ca_spec.specs.declared.clause.Clause.{Clause}
use Rattle.ca_spec.proofs.ClauseResults.{clause_holds}
use Rattle.ca_spec.proofs.Reaching.{on_err, some_clause}
use Rattle.ca_spec.proofs.on_codes.first_result.Goals as goal

pub returns-in-Some-clause-found : goal.returns-in-Some-clause-found
returns-in-Some-clause-found c =
    clause_holds c.args.clauses.now (tree_of c.args.object) c.loop-clause.clause-index c.clause-item.result (tree_of_found c.in-Some.found) _ c.loop-clause-test.true
    c.loop-clause.invariant
    (ap (option_map tree_of_found) (sym c.in-Some.is) ∙ c.in_ok-found.ensures.found ∙ ap (λ (x : Clause). clause_result (tree_of_clause x) (tree_of c.args.object)) c.clause-item.is)

pub returns-in_err-found-clause-lack : goal.returns-in_err-found-clause-lack
returns-in_err-found-clause-lack c =
    on_err c.from_residual.result _
    (some_clause c.args.clauses.now (tree_of c.args.object) c.loop-clause.clause-index c.clause-item.result c.loop-clause-test.true
    (subst (λ (x : Clause). HeadMayFit (tree_of_clause x) (tree_of c.args.object)) c.clause-item.is c.in_err-found.ensures.lack))
