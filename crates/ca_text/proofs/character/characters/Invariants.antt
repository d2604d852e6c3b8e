use Rattle.ca_text.specs.Inner.Reading.{characters_at}
use Rattle.ca_text.proofs.Loops.{PointsSoFar}
use Rattle.ca_text.proofs.character.characters.Given as goal

abbrev pub invariant-loop : goal.invariant-loop
invariant-loop l = PointsSoFar l.over l.close l.most l.limit l.counter l.points.items l.rest (characters_at l.over l.close l.most l.limit l.bytes)
