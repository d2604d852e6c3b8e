use Rattle.std.proofs.Common.{arith}
use Rattle.std.proofs.lemmas.Bool.Decides.{nat_tests}
use Rattle.std.proofs.lemmas.Grind.{common_steps}
use Rattle.ca_words.proofs.options.is_value.Goals as goal

pub returns-then-text-le10 : goal.returns-then-text-le10
returns-then-text-le10 c = grind (arith, nat_tests, common_steps)
