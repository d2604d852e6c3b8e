-- The only clause tells it.
use Rattle.std.proofs.Common.{◌≢◌, length, ◌∙◌, ap, rules}
use Rattle.ca_match.specs.Match.{clause_result}
use Rattle.ca_spec.specs.ClauseView.{tree_of_clause}
use Rattle.ca_spec.proofs.LeftClauses.{only_told}
use Rattle.ca_spec.proofs.PlainClauses.{only_plain}
use Rattle.ca_spec.proofs.on_codes.told_by_code.Goals as goal

pub returns-clause-result : goal.returns-clause-result
returns-clause-result c = λ object bounded code_is.
    only_told c.spec.inside.clauses.items c.in_ok-clause.others.now c.in_ok-clause.clause.now c.args.spec.now object _
    (c.spec.invariant.clauses_are ∙ c.spec.view_is) (search rules) (search rules)
    (c.in_ok-told.ensures.result ∙ ap (clause_result (tree_of_clause c.in_ok-clause.clause.now)) (c.of.ensures object bounded code_is))

pub returns-then-not-is_empty-clause-told : goal.returns-then-not-is_empty-clause-told
returns-then-not-is_empty-clause-told c = λ plain.
    let some : length c.in_ok-clause.others.now ≢ 0 = search rules in
    absurd (some (only_plain c.spec.inside.clauses.items c.in_ok-clause.others.now c.in_ok-clause.clause.now c.args.spec.now
    (c.spec.invariant.clauses_are ∙ c.spec.view_is) (search rules) plain).0)
