use Rattle.std.proofs.Common.{ap, false, true}
use Rattle.ca_node.specs.TreeView.{TreeView}
use Rattle.ca_rows.specs.Told.{Mine}
use Rattle.ca_tree_tests.proofs.Taking.{moved_ready}
use Rattle.ca_tree_tests.proofs.rows.pin.Goals as goal

pub returns : goal.returns
returns c = let e = c.pin.ensures.pinned.3 in
    moved_ready false true c.args.space.now.table.shared.table_id c.args.space.now.table.shared.key c.args.pass.now.number c.pin.new.pass.number
    c.args.pass.now.kept c.pin.new.pass.kept c.args.pass.now.seat c.pin.new.pass.seat c.requires c.pin.ensures.frame.same c.pin.ensures.frame.number c.pin.ensures.frame.kept
    (ap (λ (m : Mine TreeView). m.0.sizes) e) (ap (λ (m : Mine TreeView). m.0.pin.number) e) (ap (λ (m : Mine TreeView). m.0.pin.pinned) e)
    (ap (λ (m : Mine TreeView). m.0.claims) e)
