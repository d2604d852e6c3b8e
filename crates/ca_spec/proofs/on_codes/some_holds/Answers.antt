-- A clause that holds.
use Rattle.ca_order.specs.CodesView.{tree_of}
use Rattle.ca_spec.proofs.LeftClauses.{left_holds}
use Rattle.ca_spec.proofs.on_codes.some_holds.Goals as goal

pub returns-then-branch-clause-chosen : goal.returns-then-branch-clause-chosen
returns-then-branch-clause-chosen c =
    left_holds c.args.clauses.now c.loop-clause.left.now c.in-Some.others.now c.in-Some.clause.now (tree_of c.args.object) c.in_ok-holds.field-0
    c.loop-clause.invariant c.in-Some.ensures.cases.0 c.in_ok-holds.ensures.holds c.if-branch.true
