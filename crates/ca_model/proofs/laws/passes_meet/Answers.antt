use Rattle.ca_model.proofs.Passing as passing
use Rattle.ca_model.proofs.laws.passes_meet.Goals as goal

pub returns : goal.returns
returns c = passing.passes_meet
