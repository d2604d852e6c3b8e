use Rattle.std.proofs.Common.{◌≡◌, ℕ, List, refl, sym, ap, subst}
use Rattle.std.specs.List.{slice_range}
use Rattle.ca_model.specs.StoreMap.{IsPair, put}
use Rattle.ca_model.specs.History.{Put}
use Rattle.ca_model.specs.Event.{Write}
use Rattle.ca_model.specs.Known.{Known}
use Rattle.ca_model.proofs.Alone.{edit_met, put_is, kept, closed_part}
use Rattle.ca_model.proofs.plain.PlainOrderedStore.put.Goals as goal

abbrev key_of : goal.After-put → List ℕ
key_of c = slice_range c.args.object.now c.args.key_at c.args.key_end

own_pair : (c : goal.After-put) → IsPair c.self.inside.keypos (key_of c, c.args.object.now)
own_pair c = subst (λ (n : ℕ). IsPair n (key_of c, c.args.object.now)) (sym (ap (λ (k : Known). k.keypos) c.self.view_is)) c.requires.pair

map_is : (c : goal.After-put) → c.put.new.self.pairs ≡ put c.self.inside.objects.pairs (key_of c) c.args.object.now
map_is c = put_is c.self.inside.keypos _ _ _ _ c.find-place.result c.self.invariant.ordered c.find-place.ensures.bound c.find-place.ensures.position
    c.put.ensures.pairs

pub invariant_of-self : goal.invariant_of-self
invariant_of-self c = record {
  from_one = c.self.invariant.from_one;
  narrow = c.self.invariant.narrow;
  ordered = kept _ c.self.inside.objects.pairs _ (Put (key_of c) c.args.object.now) c.self.invariant.ordered (own_pair c) (map_is c);
  part = closed_part c.self.inside.keypos c.self.inside.objects.pairs _ c.self.inside.run _ c.args.self.now c.self.view_is c.requires.closed;
}

pub returns-clause-put : goal.returns-clause-put
returns-clause-put c =
    edit_met c.self.inside.keypos c.self.inside.objects.pairs c.put.new.self.pairs _ _ _ _ c.args.self.now (Write (key_of c) c.args.object.now)
    (Put (key_of c) c.args.object.now) c.self.view_is c.self.invariant.ordered refl (own_pair c) (map_is c) tt
