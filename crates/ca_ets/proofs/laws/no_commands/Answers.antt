use Rattle.ca_ets.proofs.OneClient.{empty_table, no_commands_explained}
use Rattle.ca_ets.proofs.laws.no_commands.Goals as goal

pub returns : goal.returns
returns c = λ p clients table. (empty_table p clients table, no_commands_explained p clients table)
