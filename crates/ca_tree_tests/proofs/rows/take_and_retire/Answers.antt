use Rattle.std.proofs.Common.{◌∙◌, ap}
use Rattle.ca_node.specs.TreeView.{TreeView}
use Rattle.ca_rows.specs.declared.view.Claim.TheVariants.{Holds}
use Rattle.ca_rows.specs.Claims.{claim_of}
use Rattle.ca_rows.specs.Told.{Mine}
use Rattle.ca_rows.proofs.Claiming.{claimed_here}
use Rattle.ca_tree_tests.proofs.rows.take_and_retire.Goals as goal

pub retire-requires-clause-mine : goal.retire-requires-clause-mine
retire-requires-clause-mine c = let took = c.in-Row.ensures.row.3 in
    (Holds took.0, ap (λ (m : Mine TreeView). claim_of m.0.claims c.in-Row.row) took.2 ∙ claimed_here c.args.pass.now.seat.me.0.claims c.in-Row.row (Holds took.0), tt)
