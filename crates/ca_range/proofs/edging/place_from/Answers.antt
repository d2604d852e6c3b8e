use Rattle.std.proofs.Common.{map, arith}
use Rattle.std.proofs.lemmas.List.{length-map}
use Rattle.ca_model.proofs.Walking.{all_pairs}
use Rattle.ca_node.specs.Row.{pair}
use Rattle.ca_range.proofs.edging.place_from.Goals as goal

pub returns-in-Open-clause-start : goal.returns-in-Open-clause-start
returns-in-Open-clause-start c note r = rw c.in-Open.is (all_pairs (map pair note.objects))

pub returns-in-At-clause-inside : goal.returns-in-At-clause-inside
returns-in-At-clause-inside c note r = let p = c.places.ensures.places note r in omega (arith, p.rising, p.inside, length-map note.objects pair)

pub returns-in-Past-clause-inside : goal.returns-in-Past-clause-inside
returns-in-Past-clause-inside c note r = let p = c.places-in-Past.ensures.places note r in omega (arith, p.inside, length-map note.objects pair)
