use Rattle.ca_cmd.proofs.Determined.{the_lines}
use Rattle.ca_cmd.proofs.line.Lines.of.Goals as goal

pub invariant_of-result : goal.invariant_of-result
invariant_of-result c = (the_lines c.args.source c.args.held c.requires.0 c.requires.1, tt)
