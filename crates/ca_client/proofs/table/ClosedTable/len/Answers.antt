use Rattle.std.proofs.Common.{◌∙◌, List, length, ap}
use Rattle.ca_term.specs.Tree.{Tree}
use Rattle.ca_client.proofs.Codes.{many}
use Rattle.ca_client.proofs.table.ClosedTable.len.Goals as goal

pub returns : goal.returns
returns c = c.len.ensures ∙ many c.self.inside.objects c.self.inside.terms ∙ ap (λ (table : List Tree). length table) c.self.view_is
