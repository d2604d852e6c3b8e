use Rattle.std.proofs.Common.{ℕ, List, [], map, get_or, sym, subst}
use Rattle.std.specs.Prelude.{Result}
use Rattle.ca_model.specs.Places.{IsPlace}
use Rattle.ca_node.specs.Row.{pair}
use Rattle.ca_node.specs.Told.{MyTree}
use Rattle.ca_base.specs.Finding.{IsObjectShown, IsReadable}
use Rattle.ca_base.proofs.Searching.{place_inside}
use Rattle.ca_join_tests.proofs.halts.has_in.Goals as goal

pub item-row-requires-clause-readable : goal.item-row-requires-clause-readable
item-row-requires-clause-readable c = let z = c.args.space.now.table.shared.key in let note = c.requires.readable.0 in
    let r = c.requires.readable.1 in
    let at = subst (λ (p : Result ℕ ℕ). IsPlace (map pair note.objects) c.key_code.result p) c.in-Ok.is (c.search.ensures.place note r) in (
      note,
      subst (λ (m : MyTree). IsReadable z m.0.upper c.args.base note) (sym c.search.ensures.frame.still) r,
      place_inside note c.key_code.result c.in-Ok.place at,
    )

pub copy_object-requires-clause-shown : goal.copy_object-requires-clause-shown
copy_object-requires-clause-shown c = let z = c.args.space.now.table.shared.key in let note = c.requires.readable.0 in
    let r = c.requires.readable.1 in
    let at = subst (λ (p : Result ℕ ℕ). IsPlace (map pair note.objects) c.key_code.result p) c.in-Ok.is (c.search.ensures.place note r) in
    let its : List ℕ = get_or note.objects c.in-Ok.place [] in (
      its,
      subst (λ (m : MyTree). IsObjectShown m.0.upper c.item-row.result its) (sym c.item-row.ensures.frame.still)
          (c.item-row.ensures.item note (subst (λ (m : MyTree). IsReadable z m.0.upper c.args.base note) (sym c.search.ensures.frame.still) r)
          (place_inside note c.key_code.result c.in-Ok.place at)).1,
    )
