-- A clause that holds, and one for which memory lacked.
use Rattle.std.proofs.Common.{Some, ap, sym, ◌∙◌, subst}
use Rattle.std.specs.Prelude.{option_map}
use Rattle.ca_term.specs.Tree.{Tree}
use Rattle.ca_match.specs.Match.{clause_result}
use Rattle.ca_match.specs.ValueView.{tree_of_value}
use Rattle.ca_spec.specs.ClauseView.{tree_of_clause}
use Rattle.ca_spec.specs.Reached.{HeadMayFit}
use Rattle.ca_spec.specs.declared.clause.Clause.{Clause}
use Rattle.ca_spec.proofs.ClauseResults.{clause_holds}
use Rattle.ca_spec.proofs.Reaching.{on_err, result_fits, some_clause}
use Rattle.ca_spec.proofs.results.first_result.Goals as goal

pub returns-in-Some-clause-found : goal.returns-in-Some-clause-found
returns-in-Some-clause-found c =
    clause_holds c.args.clauses.now c.args.object.now c.loop-clause.clause-index c.clause-item.result c.in_ok-into_term.field-0 _ c.loop-clause-test.true
    c.loop-clause.invariant
    (ap (λ (x : Tree). Some x) c.in_ok-into_term.ensures ∙ ap (option_map tree_of_value) (sym c.in-Some.is) ∙ c.in_ok-value.ensures.value
    ∙ ap (λ (x : Clause). clause_result (tree_of_clause x) c.args.object.now) c.clause-item.is)

pub returns-in_err-value-clause-lack : goal.returns-in_err-value-clause-lack
returns-in_err-value-clause-lack c =
    on_err c.from_residual.result _
    (some_clause c.args.clauses.now c.args.object.now c.loop-clause.clause-index c.clause-item.result c.loop-clause-test.true
    (subst (λ (x : Clause). HeadMayFit (tree_of_clause x) c.args.object.now) c.clause-item.is c.in_err-value.ensures.lack))

pub returns-in_err-into_term-clause-lack : goal.returns-in_err-into_term-clause-lack
returns-in_err-into_term-clause-lack c =
    on_err c.from_residual-in_err-into_term.result _
    (some_clause c.args.clauses.now c.args.object.now c.loop-clause.clause-index c.clause-item.result c.loop-clause-test.true
    (subst (λ (x : Clause). HeadMayFit (tree_of_clause x) c.args.object.now) c.clause-item.is
    (result_fits c.clause-item.result c.args.object.now (tree_of_value c.in-Some.value)
    (ap (option_map tree_of_value) (sym c.in-Some.is) ∙ c.in_ok-value.ensures.value))))
