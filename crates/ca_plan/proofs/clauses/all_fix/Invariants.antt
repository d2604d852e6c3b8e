-- The clauses so far fix the key.
use Rattle.std.proofs.Common.{◌≡◌}
use Rattle.ca_term.specs.Tree.{nodes}
use Rattle.ca_plan.specs.Plan.{all_fix}
use Rattle.ca_plan.proofs.clauses.all_fix.Given as goal

abbrev pub invariant-loop-clause : goal.invariant-loop-clause
invariant-loop-clause l = all_fix l.keypos l.key l.clauses ≡ all_fix l.keypos l.key l.rest

abbrev pub decreases-loop-clause : goal.decreases-loop-clause
decreases-loop-clause l = nodes l.rest
