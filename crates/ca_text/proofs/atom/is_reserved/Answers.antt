use Rattle.ca_text.specs.Text.{is_reserved}
use Rattle.ca_text.proofs.atom.is_reserved.Goals as goal

pub returns : goal.returns
unfolding is_reserved
returns c = c.contains.ensures.value
