use Rattle.std.proofs.Common.{◌∙◌}
use Rattle.std.proofs.lemmas.List.{take_all}
use Rattle.ca_node.specs.Row.{key}
use Rattle.ca_base.proofs.SplitKeys.{short_key}
use Rattle.ca_base.proofs.routing.copy_key.Goals as goal

pub returns-clause-key : goal.returns-clause-key
returns-clause-key c its shown = c.copy_part.ensures.part its shown
    ∙ take_all 1000 (key its) (short_key its shown.long)
