use Rattle.std.proofs.Common.{◌∙◌, List, ap}
use Rattle.ca_cmd.specs.Adding.{adding_in}
use Rattle.ca_cmd.specs.File.{commands_in}
use Rattle.ca_cmd.specs.Lines.{numbered}
use Rattle.ca_cmd.specs.declared.line.Line.{Line}
use Rattle.ca_cmd.proofs.Determined.{adding}
use Rattle.ca_cmd.proofs.line.Lines.adding.Goals as goal

pub returns : goal.returns
returns c =
    adding c.self.inside.source c.self.inside.held c.self.inside.keeps ∙ ap (λ (lines : List Line). adding_in (commands_in (numbered lines))) c.self.view_is
