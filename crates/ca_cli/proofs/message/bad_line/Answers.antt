use Rattle.std.proofs.Common.{rules, append_assoc, arith}
use Rattle.std.proofs.lemmas.Grind.{common_steps}
use Rattle.ca_cli.proofs.message.bad_line.Goals as goal

pub returns : goal.returns
returns c = first_of (search (rules, append_assoc), grind (arith, common_steps, append_assoc))
