use Rattle.ca_text.proofs.Nonempty.{text_some}
use Rattle.ca_text.proofs.print.text_laws.Goals as goal

pub returns : goal.returns
returns c = text_some
