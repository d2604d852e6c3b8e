use Rattle.ca_node.proofs.Looking.{refuses}
use Rattle.ca_replace.proofs.refusing.refuse_as.Goals as goal

pub load-requires-clause-rule : goal.load-requires-clause-rule
load-requires-clause-rule g c =
    refuses c.args.space.now.table.shared.key _ _ _ _ g.K.Counting.rise g.K.Counting.is_rise
