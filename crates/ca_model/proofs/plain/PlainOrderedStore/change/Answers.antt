use Rattle.std.proofs.Common.{◌≡◌, ◌∙◌, ℕ, List, length, arith, ap, subst, refl, sym, Some, None, true, false, Ok, Result}
use Rattle.ca_model.specs.StoreMap.{Pair, IsPair, put}
use Rattle.ca_model.specs.History.{Put}
use Rattle.ca_model.specs.Event.{Change}
use Rattle.ca_model.specs.Known.{Known}
use Rattle.ca_model.specs.Function.{MayLeave}
use Rattle.ca_model.specs.Slab.{placed}
use Rattle.ca_model.proofs.Alone.{read_met, edit_met, IsThere, there, absent, put_is, kept, may_leave, IsLeft, left_by, pair_of_bytes, closed_part}
use Rattle.ca_model.proofs.plain.PlainOrderedStore.change.Goals as goal

pub returns-in_default-clause-changed : goal.returns-in_default-clause-changed
returns-in_default-clause-changed g c =
    let m = c.self.inside.objects.pairs in
    let none = absent c.self.inside.keypos m c.args.key.now c.find.result c.in_default.field-0 c.self.invariant.ordered c.find.ensures.bound
    c.find.ensures.position c.in_default.is in
    (read_met c.self.inside.keypos m _ _ c.args.self.now (Change c.args.key.now None None) c.self.view_is c.self.invariant.ordered refl none, c.clear.ensures)

pub copy-requires : goal.copy-requires
copy-requires g c =
    let h : IsThere c.self.inside.keypos c.self.inside.objects.pairs c.args.key.now c.in-Ok.at c.object.result.now =
    there _ _ _ c.find.result _ _ c.self.invariant.ordered c.find.ensures.bound c.find.ensures.position c.in-Ok.is c.object.ensures in
    h.pair.short

found : (g : _) → (c : goal.After-start-1 g) → IsThere c.self.inside.keypos c.self.inside.objects.pairs c.args.key.now c.in-Ok.at c.copy.new.into.items
found g c = there _ _ _ c.find.result _ _ c.self.invariant.ordered c.find.ensures.bound c.find.ensures.position c.in-Ok.is (c.copy.ensures ∙ c.object.ensures)

pub f-requires : goal.f-requires
f-requires g c =
    let pair = subst (λ (n : ℕ). IsPair n (c.args.key.now, c.copy.new.into.items)) (ap (λ (k : Known). k.keypos) c.self.view_is) (found g c).pair in
    c.requires.function.callable c.copy.new.into.items pair _ _ _ c.as_slice.ensures.value c.new-new.ensures

pub returns-then-not-f-clause-changed : goal.returns-then-not-f-clause-changed
returns-then-not-f-clause-changed g c =
    let h : IsThere c.self.inside.keypos c.self.inside.objects.pairs c.args.key.now c.in-Ok.at c.copy.new.into.items =
    there _ _ _ c.find.result _ _ c.self.invariant.ordered c.find.ensures.bound c.find.ensures.position c.in-Ok.is (c.copy.ensures ∙ c.object.ensures) in (
      (
        _,
        _,
        may_leave g.F.Fn c.args.f.now c.copy.new.into.items c.f.result false _ _ _ _ _ c.if-not-f.true c.as_slice.ensures.value c.new-new.ensures
            c.f.ensures,
      ),
      read_met c.self.inside.keypos c.self.inside.objects.pairs _ _ c.args.self.now (Change c.args.key.now (Some c.copy.new.into.items) None) c.self.view_is
          c.self.invariant.ordered refl h.found,
    )

left : (g : _) → (c : goal.Else-not-f g) → IsLeft c.self.inside.keypos c.args.key.now c.f.new.arg3.items c.f.new.arg4
left g c =
    let old : IsThere c.self.inside.keypos c.self.inside.objects.pairs c.args.key.now c.in-Ok.at c.copy.new.into.items =
    there _ _ _ c.find.result _ _ c.self.invariant.ordered c.find.ensures.bound c.find.ensures.position c.in-Ok.is (c.copy.ensures ∙ c.object.ensures) in
    let may = may_leave g.F.Fn c.args.f.now c.copy.new.into.items c.f.result true _ _ _ _ _ c.if-not-f.false c.as_slice.ensures.value c.new-new.ensures
    c.f.ensures in
    left_by g.F.Fn c.args.f.now _ _ _ _ _ _ (ap (λ (k : Known). k.keypos) c.self.view_is) c.requires.function old.pair may

pub overflow_add-end : goal.overflow_add-end
overflow_add-end g c = let l = left g c in record { fits = omega (arith, l.inside, l.pair.short) }

left_at : (g : _) → (c : goal.After-as_slice-2 g) → IsLeft c.self.inside.keypos c.args.key.now c.f.new.arg3.items c.f.new.arg4
left_at g c =
    let old : IsThere c.self.inside.keypos c.self.inside.objects.pairs c.args.key.now c.in-Ok.at c.copy.new.into.items =
    there _ _ _ c.find.result _ _ c.self.invariant.ordered c.find.ensures.bound c.find.ensures.position c.in-Ok.is (c.copy.ensures ∙ c.object.ensures) in
    let may = may_leave g.F.Fn c.args.f.now c.copy.new.into.items c.f.result true _ _ _ _ _ c.if-not-f.false c.as_slice.ensures.value c.new-new.ensures
    c.f.ensures in
    left_by g.F.Fn c.args.f.now _ _ _ _ _ _ (ap (λ (k : Known). k.keypos) c.self.view_is) c.requires.function old.pair may

pub put-requires-clause-key : goal.put-requires-clause-key
put-requires-clause-key g c = let l = left_at g c in (omega arith, omega (arith, l.inside, ap (λ (x : List ℕ). length x) c.as_slice-2.ensures.value))

-- what the call comes to
record Comes (g : _) (c : goal.After-put g) : Type 0 where
  may_be : MayLeave g.F.Fn c.args.f.now c.copy.new.into.items true c.f.new.arg3.items c.f.new.arg4
  old : IsThere c.self.inside.keypos c.self.inside.objects.pairs c.args.key.now c.in-Ok.at c.copy.new.into.items
  pair : IsPair c.self.inside.keypos (c.args.key.now, c.f.new.arg3.items)
  map_is : c.put.new.self.pairs ≡ put c.self.inside.objects.pairs c.args.key.now c.f.new.arg3.items

comes : (g : _) → (c : goal.After-put g) → Comes g c
comes g c =
    let m = c.self.inside.objects.pairs in
    let old : IsThere c.self.inside.keypos m c.args.key.now c.in-Ok.at c.copy.new.into.items =
    there _ _ _ c.find.result _ _ c.self.invariant.ordered c.find.ensures.bound c.find.ensures.position c.in-Ok.is (c.copy.ensures ∙ c.object.ensures) in
    let may_be = may_leave g.F.Fn c.args.f.now c.copy.new.into.items c.f.result true _ _ _ _ _ c.if-not-f.false c.as_slice.ensures.value c.new-new.ensures
    c.f.ensures in
    let l = left_by g.F.Fn c.args.f.now _ _ c.args.key.now c.copy.new.into.items c.f.new.arg3.items c.f.new.arg4
    (ap (λ (k : Known). k.keypos) c.self.view_is) c.requires.function old.pair may_be in
    let own = pair_of_bytes c.as_slice-2.result.now c.f.new.arg3.items c.args.key.now c.f.new.arg4 c.as_slice-2.ensures.value l.key in
    record {
      may_be = may_be;
      old = old;
      pair = l.pair;
      map_is = put_is c.self.inside.keypos m c.put.new.self.pairs c.args.key.now c.f.new.arg3.items c.find.result c.self.invariant.ordered
          c.find.ensures.bound c.find.ensures.position
          (c.put.ensures.pairs ∙ ap (λ (q : Pair). placed m (Ok c.in-Ok.at) q) own ∙ ap (λ (r : Result ℕ ℕ). placed m r (c.args.key.now, c.f.new.arg3.items))
          (sym c.in-Ok.is));
    }

pub invariant_of-self : goal.invariant_of-self
invariant_of-self g c =
    let e = comes g c in
    record {
      from_one = c.self.invariant.from_one;
      narrow = c.self.invariant.narrow;
      ordered = kept _ c.self.inside.objects.pairs _ (Put c.args.key.now c.f.new.arg3.items) c.self.invariant.ordered e.pair e.map_is;
      part = closed_part c.self.inside.keypos c.self.inside.objects.pairs _ c.self.inside.run _ c.args.self.now c.self.view_is c.requires.closed;
    }

pub returns-clause-changed : goal.returns-clause-changed
returns-clause-changed g c =
    let e = comes g c in (
      c.f.new.arg3.items,
      c.f.new.arg4,
      e.may_be,
      edit_met c.self.inside.keypos c.self.inside.objects.pairs c.put.new.self.pairs _ _ _ _ c.args.self.now
          (Change c.args.key.now (Some c.copy.new.into.items) (Some c.f.new.arg3.items))
          (Put c.args.key.now c.f.new.arg3.items) c.self.view_is c.self.invariant.ordered refl e.pair e.map_is e.old.found,
    )
