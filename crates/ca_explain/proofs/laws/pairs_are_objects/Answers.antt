use Rattle.ca_explain.proofs.Pairs.{pairs_are_objects}
use Rattle.ca_explain.proofs.laws.pairs_are_objects.Goals as goal

pub returns : goal.returns
returns c = pairs_are_objects
