use Rattle.std.proofs.Common.{ap}
use Rattle.ca_node.specs.Told.{MyTree}
use Rattle.ca_node.proofs.Fronts.{learns}
use Rattle.ca_node.proofs.handing.learn.Goals as goal

pub join-requires-clause-rule : goal.join-requires-clause-rule
join-requires-clause-rule c = let front = c.into_half.ensures.front in
    learns c.args.space.now.table.shared.key c.args.pass.now.seat.id c.args.pass.now.seat.me.0
    c.into_half.result.seat.id c.into_half.result.seat.me.0
    c.requires.unpinned
    (ap (λ (m : MyTree). m.0.pin.pinned) front) (ap (λ (m : MyTree). m.0.made) front)
