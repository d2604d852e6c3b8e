use Rattle.ca_node.proofs.Looking.{reads_last}
use Rattle.ca_replace.proofs.ending.enter_run_as.Goals as goal

pub load-requires-clause-rule : goal.load-requires-clause-rule
load-requires-clause-rule g c =
    reads_last c.args.space.now.table.shared.key _ _ _ _ g.K.Entered.event c.requires.answer
