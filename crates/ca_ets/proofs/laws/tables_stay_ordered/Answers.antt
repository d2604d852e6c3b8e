use Rattle.ca_ets.proofs.OneClient.{explained_table}
use Rattle.ca_ets.proofs.laws.tables_stay_ordered.Goals as goal

pub returns : goal.returns
returns c = explained_table
