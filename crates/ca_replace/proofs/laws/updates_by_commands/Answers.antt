use Rattle.ca_replace.proofs.Commands.{update_by_commands}
use Rattle.ca_replace.proofs.laws.updates_by_commands.Goals as goal

pub returns : goal.returns
returns c = update_by_commands
