use Rattle.std.proofs.Common.{◌≡◌, ◌∙◌, ℕ, ap, subst, refl, Some, None}
use Rattle.ca_model.specs.StoreMap.{IsPair, del}
use Rattle.ca_model.specs.History.{Del}
use Rattle.ca_model.specs.Event.{Get, Remove}
use Rattle.ca_model.specs.Known.{Known}
use Rattle.ca_model.proofs.Places.{removed_is}
use Rattle.ca_model.proofs.Alone.{read_met, edit_met, IsThere, there, absent, kept, closed_part}
use Rattle.ca_model.proofs.plain.PlainOrderedStore.remove_if.Goals as goal

pub returns-in_default-clause-removed : goal.returns-in_default-clause-removed
returns-in_default-clause-removed g c =
    let m = c.self.inside.objects.pairs in
    let none = absent c.self.inside.keypos m c.args.key.now c.find.result c.in_default.field-0 c.self.invariant.ordered c.find.ensures.bound
    c.find.ensures.position c.in_default.is in
    (read_met c.self.inside.keypos m _ _ c.args.self.now (Get c.args.key.now None) c.self.view_is c.self.invariant.ordered refl none, c.clear.ensures)

pub copy-requires : goal.copy-requires
copy-requires g c =
    let h : IsThere c.self.inside.keypos c.self.inside.objects.pairs c.args.key.now c.in-Ok.at c.object.result.now =
    there _ _ _ c.find.result _ _ c.self.invariant.ordered c.find.ensures.bound c.find.ensures.position c.in-Ok.is c.object.ensures in
    h.pair.short

found : (g : _) → (c : goal.After-as_slice g) → IsThere c.self.inside.keypos c.self.inside.objects.pairs c.args.key.now c.in-Ok.at c.copy.new.into.items
found g c = there _ _ _ c.find.result _ _ c.self.invariant.ordered c.find.ensures.bound c.find.ensures.position c.in-Ok.is (c.copy.ensures ∙ c.object.ensures)

pub f-requires : goal.f-requires
f-requires g c =
    let pair = subst (λ (n : ℕ). IsPair n (c.args.key.now, c.copy.new.into.items)) (ap (λ (k : Known). k.keypos) c.self.view_is) (found g c).pair in
    c.requires.function c.copy.new.into.items pair _ c.as_slice.ensures.value

pub returns-then-not-f-clause-removed : goal.returns-then-not-f-clause-removed
returns-then-not-f-clause-removed g c =
    let h : IsThere c.self.inside.keypos c.self.inside.objects.pairs c.args.key.now c.in-Ok.at c.copy.new.into.items =
    there _ _ _ c.find.result _ _ c.self.invariant.ordered c.find.ensures.bound c.find.ensures.position c.in-Ok.is (c.copy.ensures ∙ c.object.ensures) in (
      record { shown = _; shows = c.as_slice.ensures.value; met = rw c.if-not-f.true at c.f.ensures },
      read_met c.self.inside.keypos c.self.inside.objects.pairs _ _ c.args.self.now (Get c.args.key.now (Some c.copy.new.into.items)) c.self.view_is
          c.self.invariant.ordered refl h.found,
    )

taken : (g : _) → (c : goal.After-remove g) → IsThere c.self.inside.keypos c.self.inside.objects.pairs c.args.key.now c.in-Ok.at c.copy.new.into.items
taken g c = there _ _ _ c.find.result _ _ c.self.invariant.ordered c.find.ensures.bound c.find.ensures.position c.in-Ok.is (c.copy.ensures ∙ c.object.ensures)

map_is : (g : _) → (c : goal.After-remove g) → c.remove.new.self.pairs ≡ del c.self.inside.objects.pairs c.args.key.now
map_is g c =
    c.remove.ensures.pairs
    ∙ removed_is c.self.inside.keypos c.self.inside.objects.pairs c.args.key.now c.in-Ok.at c.self.invariant.ordered (taken g c).place

pub invariant_of-self : goal.invariant_of-self
invariant_of-self g c = record {
  from_one = c.self.invariant.from_one;
  narrow = c.self.invariant.narrow;
  ordered = kept _ c.self.inside.objects.pairs _ (Del c.args.key.now) c.self.invariant.ordered tt (map_is g c);
  part = closed_part c.self.inside.keypos c.self.inside.objects.pairs _ c.self.inside.run _ c.args.self.now c.self.view_is c.requires.closed;
}

pub returns-clause-removed : goal.returns-clause-removed
returns-clause-removed g c = (
  record { shown = _; shows = c.as_slice.ensures.value; met = rw c.if-not-f.false at c.f.ensures },
  edit_met c.self.inside.keypos c.self.inside.objects.pairs c.remove.new.self.pairs _ _ _ _ c.args.self.now (Remove c.args.key.now (Some c.copy.new.into.items))
      (Del c.args.key.now) c.self.view_is c.self.invariant.ordered refl tt (map_is g c) (taken g c).found,
)
