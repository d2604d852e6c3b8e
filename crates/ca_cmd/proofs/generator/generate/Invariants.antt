use Rattle.ca_cmd.proofs.Generating.{IsMaking}
use Rattle.ca_cmd.proofs.generator.generate.Given as goal

abbrev pub invariant-loop-i : goal.invariant-loop-i
invariant-loop-i l = IsMaking l.seed l.client l.lines l.held l.i l.x
