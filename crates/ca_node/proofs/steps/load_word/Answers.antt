use Rattle.std.proofs.Common.{refl}
use Rattle.ca_node.proofs.Looking.{reads}
use Rattle.ca_node.proofs.steps.load_word.Goals as goal

pub load-requires-clause-rule : goal.load-requires-clause-rule
load-requires-clause-rule c = reads c.args.space.now.table.shared.key _ _ _ _ c.requires.reading.own.1

pub returns-clause-word : goal.returns-clause-word
returns-clause-word c word shown =
    c.load.ensures.told.1 c.args.row c.args.index word refl c.requires.inside.1 shown
