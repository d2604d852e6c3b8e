use Rattle.std.proofs.Common.{map, arith, sym, ap, ◌∙◌, subst}
use Rattle.std.proofs.lemmas.List.{length-map}
use Rattle.ca_base.specs.Finding.{IsReadable}
use Rattle.ca_base.specs.Putting.{first_note}
use Rattle.ca_model.specs.Edges.{objects_of}
use Rattle.ca_model.specs.Runs.{HasCounted}
use Rattle.ca_model.specs.StoreMap.{StoreMap}
use Rattle.ca_node.specs.Row.{pair}
use Rattle.ca_node.specs.Told.{MyTree}
use Rattle.ca_range.specs.Counted.{IsCountOf}
use Rattle.ca_range.proofs.CountedObjects.{part_to_end}
use Rattle.ca_range.proofs.looking.count_on.Goals as goal

pub count_in-requires-clause-readable : goal.count_in-requires-clause-readable
count_in-requires-clause-readable g c = let note = first_note c.args.pass.now.seat.me.0.upper.notes in let z = c.args.space.now.table.shared.key in (
  note,
  subst (λ (x : MyTree). IsReadable z x.0.upper c.args.base note) (sym (c.count-end.ensures.frame.still ∙ c.place_from-from.ensures.frame.still))
      c.requires.readable,
)

pub count_in-requires-clause-inside : goal.count_in-requires-clause-inside
count_in-requires-clause-inside g c = λ note r. let z = c.args.space.now.table.shared.key in
    let end = c.count-end.ensures.count note (subst (λ (x : MyTree). IsReadable z x.0.upper c.args.base note) c.count-end.ensures.frame.still r) in omega arith

pub returns-clause-added : goal.returns-clause-added
returns-clause-added g c = let note = first_note c.args.pass.now.seat.me.0.upper.notes in let e = c.place_from-from.ensures in
    let z = c.args.space.now.table.shared.key in
    let there = subst (λ (x : MyTree). IsReadable z x.0.upper c.args.base note) (sym e.frame.still) c.requires.readable in
    let n = c.count_in.ensures.counted note (subst (λ (x : MyTree). IsReadable z x.0.upper c.args.base note) (sym c.count-end.ensures.frame.still) there) in (
      n.0,
      n.1,
      subst (HasCounted g.F.Fn c.args.sought.now.counts.now n.0)
          (ap (λ (m : StoreMap). objects_of m) (part_to_end (map pair note.objects) c.place_from-from.result c.count-end.result
          (c.count-end.ensures.count note there ∙ sym (length-map note.objects pair)) ∙ sym (e.start note c.requires.readable))) n.2,
    )

pub returns-clause-all : goal.returns-clause-all
returns-clause-all g c = λ some less. let note = first_note c.args.pass.now.seat.me.0.upper.notes in let e = c.place_from-from.ensures in
    let z = c.args.space.now.table.shared.key in
    let there = subst (λ (x : MyTree). IsReadable z x.0.upper c.args.base note) (sym e.frame.still) c.requires.readable in
    let n = c.count_in.ensures.all less note (subst (λ (x : MyTree). IsReadable z x.0.upper c.args.base note) (sym c.count-end.ensures.frame.still) there) in (
      n.0,
      n.1,
      subst (IsCountOf g.F.Fn c.args.sought.now.counts.now n.0)
          (ap (λ (m : StoreMap). objects_of m) (part_to_end (map pair note.objects) c.place_from-from.result c.count-end.result
          (c.count-end.ensures.count note there ∙ sym (length-map note.objects pair)) ∙ sym (e.start note c.requires.readable))) n.2,
    )
