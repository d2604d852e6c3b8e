use Rattle.ca_ets.proofs.Steps.{step_keeps}
use Rattle.ca_ets.proofs.laws.steps_keep.Goals as goal

pub returns : goal.returns
returns c = step_keeps
