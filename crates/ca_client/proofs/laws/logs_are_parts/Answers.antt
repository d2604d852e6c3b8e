use Rattle.ca_client.proofs.Logs.{log_of_parts}
use Rattle.ca_client.proofs.laws.logs_are_parts.Goals as goal

pub returns : goal.returns
returns c = log_of_parts
