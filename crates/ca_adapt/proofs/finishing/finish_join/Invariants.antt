use Rattle.ca_node.specs.Told.{link_word}
use Rattle.ca_adapt.proofs.JoinSwaps.{unlinking_of}
use Rattle.ca_adapt.proofs.finishing.finish_join.Given as goal

abbrev pub ghosts-put_joined : goal.ghosts-put_joined
ghosts-put_joined a =
    record { unlinking = unlinking_of a.pass.now.seat.me a.rows a.counted (link_word a.above) }
