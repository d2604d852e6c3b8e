use Rattle.std.proofs.Common.{arith}
use Rattle.ca_term.specs.Tree.{nodes, row_nodes, row_of}
use Rattle.ca_match.proofs.matcher.+bind.Goals as goal
use Rattle.ca_term.proofs.Rows.{nodes_item}
use Rattle.std.proofs.Common.{◌≤◌}

pub bind_all-bind-requires : goal.bind_all-bind-requires
bind_all-bind-requires t c =
    let n : nodes c.index-parts-i.result ≤ row_nodes (row_of c.args.parts.now) =
    rw c.index-parts-i.is (nodes_item c.args.parts.now c.loop-i.i c.index-parts-i.result (omega arith)) in
    (omega (arith, c.decreases), tt)
