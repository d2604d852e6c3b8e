use Rattle.std.proofs.Common.{◌≡◌, ◌∙◌, ℕ, List, refl, sym, ap, subst, true, false, Result}
use Rattle.std.specs.List.{slice_range}
use Rattle.ca_model.specs.StoreMap.{IsPair, put}
use Rattle.ca_model.specs.History.{Put}
use Rattle.ca_model.specs.Event.{WriteNew}
use Rattle.ca_model.specs.Known.{Known}
use Rattle.ca_model.specs.Slab.{placed}
use Rattle.ca_model.proofs.Alone.{read_met, edit_met, there, absent, put_is, kept, closed_part}
use Rattle.ca_model.proofs.plain.PlainOrderedStore.put_new.Goals as goal

pub returns-in_default-clause-put : goal.returns-in_default-clause-put
returns-in_default-clause-put c =
    let m = c.self.inside.objects.pairs in
    let key = slice_range c.args.object.now c.args.key_at c.args.key_end in
    let h = there c.self.inside.keypos m key c.find.result c.in_default.field-0 _ c.self.invariant.ordered c.find.ensures.bound c.find.ensures.position
    c.in_default.is refl in
    read_met c.self.inside.keypos m _ _ c.args.self.now (WriteNew key c.args.object.now false) c.self.view_is c.self.invariant.ordered refl (λ none. let no =
    sym h.found ∙ none in cc)

abbrev key_of : goal.After-put → List ℕ
key_of c = slice_range c.args.object.now c.args.key_at c.args.key_end

own_pair : (c : goal.After-put) → IsPair c.self.inside.keypos (key_of c, c.args.object.now)
own_pair c = subst (λ (n : ℕ). IsPair n (key_of c, c.args.object.now)) (sym (ap (λ (k : Known). k.keypos) c.self.view_is)) c.requires.pair

map_is : (c : goal.After-put) → c.put.new.self.pairs ≡ put c.self.inside.objects.pairs (key_of c) c.args.object.now
map_is c =
    let m = c.self.inside.objects.pairs in
    put_is c.self.inside.keypos m c.put.new.self.pairs (key_of c) c.args.object.now c.find.result c.self.invariant.ordered c.find.ensures.bound
    c.find.ensures.position
    (c.put.ensures.pairs ∙ ap (λ (r : Result ℕ ℕ). placed m r (key_of c, c.args.object.now)) (sym c.in-Err.is))

pub invariant_of-self : goal.invariant_of-self
invariant_of-self c = record {
  from_one = c.self.invariant.from_one;
  narrow = c.self.invariant.narrow;
  ordered = kept _ c.self.inside.objects.pairs _ (Put (key_of c) c.args.object.now) c.self.invariant.ordered (own_pair c) (map_is c);
  part = closed_part c.self.inside.keypos c.self.inside.objects.pairs _ c.self.inside.run _ c.args.self.now c.self.view_is c.requires.closed;
}

pub returns-clause-put : goal.returns-clause-put
returns-clause-put c =
    let m = c.self.inside.objects.pairs in
    let none = absent c.self.inside.keypos m (key_of c) c.find.result c.in-Err.at c.self.invariant.ordered c.find.ensures.bound c.find.ensures.position
    c.in-Err.is in
    edit_met c.self.inside.keypos m c.put.new.self.pairs _ _ _ _ c.args.self.now (WriteNew (key_of c) c.args.object.now true)
    (Put (key_of c) c.args.object.now) c.self.view_is c.self.invariant.ordered refl (own_pair c) (map_is c) none
