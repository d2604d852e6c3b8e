use Rattle.std.proofs.Common.{◌≡◌, ◌∙◌, refl, Some, None}
use Rattle.ca_model.specs.StoreMap.{del}
use Rattle.ca_model.specs.History.{Del}
use Rattle.ca_model.specs.Event.{Remove}
use Rattle.ca_model.proofs.Places.{removed_is}
use Rattle.ca_model.proofs.Alone.{read_met, edit_met, IsThere, there, absent, kept, closed_part}
use Rattle.ca_model.proofs.plain.PlainOrderedStore.remove.Goals as goal

pub returns-in_default-clause-removed : goal.returns-in_default-clause-removed
returns-in_default-clause-removed c =
    let m = c.self.inside.objects.pairs in
    let none = absent c.self.inside.keypos m c.args.key.now c.find.result c.in_default.field-0 c.self.invariant.ordered c.find.ensures.bound
    c.find.ensures.position c.in_default.is in
    (read_met c.self.inside.keypos m _ _ c.args.self.now (Remove c.args.key.now None) c.self.view_is c.self.invariant.ordered refl none, c.clear.ensures)

pub copy-requires : goal.copy-requires
copy-requires c =
    let h : IsThere c.self.inside.keypos c.self.inside.objects.pairs c.args.key.now c.in-Ok.at c.object.result.now =
    there _ _ _ c.find.result _ _ c.self.invariant.ordered c.find.ensures.bound c.find.ensures.position c.in-Ok.is c.object.ensures in
    h.pair.short

found : (c : goal.After-remove) → IsThere c.self.inside.keypos c.self.inside.objects.pairs c.args.key.now c.in-Ok.at c.copy.new.into.items
found c = there _ _ _ c.find.result _ _ c.self.invariant.ordered c.find.ensures.bound c.find.ensures.position c.in-Ok.is (c.copy.ensures ∙ c.object.ensures)

map_is : (c : goal.After-remove) → c.remove.new.self.pairs ≡ del c.self.inside.objects.pairs c.args.key.now
map_is c =
    c.remove.ensures.pairs
    ∙ removed_is c.self.inside.keypos c.self.inside.objects.pairs c.args.key.now c.in-Ok.at c.self.invariant.ordered (found c).place

pub invariant_of-self : goal.invariant_of-self
invariant_of-self c = record {
  from_one = c.self.invariant.from_one;
  narrow = c.self.invariant.narrow;
  ordered = kept _ c.self.inside.objects.pairs _ (Del c.args.key.now) c.self.invariant.ordered tt (map_is c);
  part = closed_part c.self.inside.keypos c.self.inside.objects.pairs _ c.self.inside.run _ c.args.self.now c.self.view_is c.requires.closed;
}

pub returns-clause-removed : goal.returns-clause-removed
returns-clause-removed c =
    edit_met c.self.inside.keypos c.self.inside.objects.pairs c.remove.new.self.pairs _ _ _ _ c.args.self.now
    (Remove c.args.key.now (Some c.copy.new.into.items)) (Del c.args.key.now) c.self.view_is c.self.invariant.ordered refl tt (map_is c) (found c).found
