use Rattle.ca_replace.proofs.Commands.{full_late}
use Rattle.ca_replace.proofs.laws.full_comes_late.Goals as goal

pub returns : goal.returns
returns c = full_late
