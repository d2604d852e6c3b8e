use Rattle.std.proofs.Common.{List, map, set, sym, ◌∙◌, ap}
use Rattle.std.proofs.lemmas.List.{map-set}
use Rattle.ca_model.specs.StoreMap.{Pair}
use Rattle.ca_model.specs.NearView.{near_of}
use Rattle.ca_model.proofs.rows.Rows.set.Goals as goal

-- what stands close together is written as the row is
pub invariant_of-self : goal.invariant_of-self
invariant_of-self c =
    let rows = c.self.inside.rows.items in
    let slot = c.args.slot in
    ap (λ (near : List Pair). set near slot c.set-2.new.self) c.self.invariant
    ∙ ap (λ (p : Pair). set (map near_of rows) slot p) (c.set-2.ensures ∙ sym (ap near_of c.set.ensures)) ∙ sym (map-set near_of rows slot c.set.new.self)
