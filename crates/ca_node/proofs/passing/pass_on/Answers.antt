use Rattle.ca_node.proofs.Looking.{passes_on}
use Rattle.ca_node.proofs.passing.pass_on.Goals as goal

pub load-requires-clause-rule : goal.load-requires-clause-rule
load-requires-clause-rule c = passes_on c.args.space.now.table.shared.key _ _ _ _ c.requires.aside
