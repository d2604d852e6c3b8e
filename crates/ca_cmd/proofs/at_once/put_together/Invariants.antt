use Rattle.ca_cmd.specs.Parts.{IsPart}
use Rattle.ca_cmd.proofs.at_once.put_together.Given as goal

abbrev pub invariant-loop-piece : goal.invariant-loop-piece
invariant-loop-piece l = IsPart l.file 0 0 l.whole
