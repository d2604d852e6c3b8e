use Rattle.ca_ets.proofs.OneClient.{empty_table, no_commands_explained}
use Rattle.ca_ets.proofs.laws.no_files.Goals as goal

pub returns : goal.returns
returns c = λ p table. (empty_table p 0 table, no_commands_explained p 0 table)
