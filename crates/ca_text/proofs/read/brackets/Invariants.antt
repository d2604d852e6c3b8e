use Rattle.ca_text.specs.Inner.Reading.{brackets_at}
use Rattle.ca_text.proofs.Loops.{BracketsSoFar}
use Rattle.ca_text.proofs.read.brackets.Given as goal

abbrev pub invariant-loop : goal.invariant-loop
invariant-loop l = BracketsSoFar l.owed l.counter l.rest (brackets_at l.owed l.bytes)
