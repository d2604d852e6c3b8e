-- The key of the plan.
use Rattle.std.proofs.Common.{ap, ◌∙◌}
use Rattle.ca_plan.specs.Plan.{shared_key}
use Rattle.ca_plan.proofs.Keys.{key_covers}
use Rattle.ca_plan.proofs.clauses.plan.Goals as goal

pub returns-in-Ok-clause-covers : goal.returns-in-Ok-clause-covers
returns-in-Ok-clause-covers c =
    key_covers c.args.keypos c.in-Some.key.now c.in-Ok.copy c.args.spec.now c.requires
    (c.in-Some.ensures ∙ ap (shared_key c.args.keypos) c.source.ensures.term) c.in-Ok.ensures.ok
