use Rattle.std.proofs.Common.{◌≢◌, length, refl, ◌∙◌, rules}
use Rattle.ca_spec.proofs.Sieves.{more_found}
use Rattle.ca_spec.proofs.sieve.Sieve.of.Goals as goal

pub returns-else-is_empty-clause-found : goal.returns-else-is_empty-clause-found
returns-else-is_empty-clause-found c =
    let some : length c.in_ok-clause.others.now ≢ 0 = search rules in
    more_found c.spec.inside.clauses.items c.in_ok-clause.others.now c.in_ok-clause.clause.now c.args.spec.now _
    (c.spec.invariant.clauses_are ∙ c.spec.view_is) (search rules) some refl
