use Rattle.std.proofs.Common.{sym, ◌∙◌}
use Rattle.ca_table.proofs.Collecting.{counts_told}
use Rattle.ca_table.proofs.run.gives_result.Goals as goal

pub returns-in-Ok-true : goal.returns-in-Ok-true
returns-in-Ok-true c = λ o b e. counts_told _ (sym c.in-Ok-true.field-0-test ∙ c.in-Ok-true.ensures.chosen o b e)
