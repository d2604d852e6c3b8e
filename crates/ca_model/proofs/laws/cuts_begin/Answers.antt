use Rattle.ca_model.proofs.Cuts as cuts
use Rattle.ca_model.proofs.laws.cuts_begin.Goals as goal

pub returns : goal.returns
returns c = cuts.cuts_begin
