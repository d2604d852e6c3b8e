use Rattle.std.proofs.Common.{ℕ, ◌∙◌, length, map, take, sym, ap, arith}
use Rattle.std.proofs.lemmas.List.{length-map, take_all}
use Rattle.ca_model.proofs.Walking.{all_pairs}
use Rattle.ca_node.specs.Row.{pair}
use Rattle.ca_range.proofs.edging.place_to.Goals as goal

pub returns-in-Open-clause-end : goal.returns-in-Open-clause-end
returns-in-Open-clause-end c note r = let objects = map pair note.objects in let long = length-map note.objects pair in
    rw c.in-Open.is (all_pairs objects
    ∙ sym (ap (λ (n : ℕ). take n objects) (c.count.ensures.count note r) ∙ take_all (length note.objects) objects (omega arith)))

pub returns-in-At-clause-inside : goal.returns-in-At-clause-inside
returns-in-At-clause-inside c note r = let p = c.places.ensures.places note r in omega (arith, p.inside, length-map note.objects pair)

pub returns-in-Past-clause-inside : goal.returns-in-Past-clause-inside
returns-in-Past-clause-inside c note r = let p = c.places-in-Past.ensures.places note r in
    omega (arith, p.rising, p.inside, length-map note.objects pair)
