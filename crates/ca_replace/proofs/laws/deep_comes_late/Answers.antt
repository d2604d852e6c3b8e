use Rattle.ca_replace.proofs.Levels.{deep_late}
use Rattle.ca_replace.proofs.laws.deep_comes_late.Goals as goal

pub returns : goal.returns
returns c = deep_late
