use Rattle.ca_node.specs.Told.{link_word}
use Rattle.ca_adapt.proofs.OwnSwaps.{unlinking_by}
use Rattle.ca_adapt.proofs.carrying.unite.Given as goal

abbrev pub ghosts-put_joined : goal.ghosts-put_joined
ghosts-put_joined a =
    record { unlinking = unlinking_by a.pass.now.seat.me a.rows (link_word a.above) }
