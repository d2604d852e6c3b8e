use Rattle.ca_node.proofs.Fronts.{fronts}
use Rattle.ca_node.proofs.handing.front.Goals as goal

pub split-half-requires-clause-rule : goal.split-half-requires-clause-rule
split-half-requires-clause-rule c =
    fronts c.args.space.now.table.shared.key c.args.pass.now.seat.id c.args.pass.now.seat.me.0
