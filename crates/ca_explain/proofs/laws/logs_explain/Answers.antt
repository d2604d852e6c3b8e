use Rattle.ca_explain.proofs.Explains.{explains}
use Rattle.ca_explain.proofs.laws.logs_explain.Goals as goal

pub returns : goal.returns
returns c = explains
