use Rattle.ca_client.proofs.OneHistory.{one_history}
use Rattle.ca_client.proofs.laws.runs_have_one_history.Goals as goal

pub returns : goal.returns
returns c = one_history
