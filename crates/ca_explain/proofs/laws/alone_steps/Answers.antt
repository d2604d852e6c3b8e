use Rattle.ca_explain.proofs.Alone.{alone, never_overtaken, never_refused}
use Rattle.ca_explain.proofs.laws.alone_steps.Goals as goal

pub returns : goal.returns
returns c = record { steps = alone; never_overtaken = never_overtaken; never_refused = never_refused }
