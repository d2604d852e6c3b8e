use Rattle.ca_ets.proofs.OneClient.{in_order, explained}
use Rattle.ca_ets.proofs.laws.one_client.Goals as goal

pub returns : goal.returns
returns c = λ p commands answers table. (in_order p commands answers table, explained p commands answers table)
