use Rattle.ca_replace.proofs.Levels.{split_by_commands}
use Rattle.ca_replace.proofs.laws.splits_by_commands.Goals as goal

pub returns : goal.returns
returns c = split_by_commands
