-- The objects of a store map, read one after another, are the table that it stands for.
use Rattle.std.proofs.Common.{◌≡◌, ℕ, zero, suc, ◌+◌, ◌<◌, List, [], ◌∷◌, ◌++◌, length, map, take, get_or, arith, refl, sym, ◌∙◌, ap, subst}
use Rattle.std.proofs.lemmas.List.{map-append, take_all, take_more}
use Rattle.ca_term.specs.Tree.{Tree, IsTerm, AreTerms}
use Rattle.ca_term.specs.Code.{code_of}
use Rattle.ca_term.specs.Object.{key_of}
use Rattle.ca_term.proofs.Codes.{compare_as_terms}
use Rattle.ca_order.specs.Languages.{IsTermCode}
use Rattle.ca_ets.specs.OrderedMap as terms
use Rattle.ca_ets.specs.OrderedMap.{IsTable, IsEntry}
use Rattle.ca_model.specs.StoreMap.{Pair, StoreMap, AreAbove, IsStoreMap, IsPair}
use Rattle.ca_model.specs.Slab.{nothing}
use Rattle.ca_explain.specs.Stands.{Stands, pair_of}
use Rattle.ca_explain.proofs.Filters.{same_code}
use Rattle.ca_explain.proofs.Keys.{key_is_term}
use Rattle.ca_explain.proofs.Pairs.{object_of_pair}

-- These terms are the first objects of the map.
pub record AreListed (p : ℕ) (m : StoreMap) (at : ℕ) (ts : List Tree) : Type 0 where
  pub codes : take at m ≡ map (pair_of p) ts
  pub bounded : AreTerms ts

pair_in : (p : ℕ) (m : StoreMap) (at : ℕ) → IsStoreMap p m → at < length m → IsPair p (get_or m at nothing)
pair_in p [] at h l = absurd (omega (arith, l))
pair_in p (q ∷ m) zero h l = h.0
pair_in p (q ∷ m) (suc at) h l = pair_in p m at h.2 (omega (arith, l))

-- What stands in a place of the map is the code of a term.
pub code_in : (p : ℕ) (m : StoreMap) (at : ℕ) → IsStoreMap p m → at < length m → IsTermCode (get_or m at nothing).1
code_in p m at h l = let f = object_of_pair p (get_or m at nothing) (pair_in p m at h l) in (f.object, f.bounded, f.object_is)

-- A pair is that of the object whose code it has.
same_pair : (p : ℕ) (q : Pair) (t : Tree) → IsPair p q → IsTerm t → q.1 ≡ code_of t → q ≡ pair_of p t
same_pair p q t h b e =
    let f = object_of_pair p q h in
    let same : f.object ≡ t = same_code f.object t f.bounded b (sym f.object_is ∙ e) in
    let key : q.0 ≡ code_of (key_of p t) = f.key_is ∙ ap (λ (x : Tree). code_of (key_of p x)) same in
    λ i. (key i, e i)

-- One more term.
pub terms_more : (ts : List Tree) (t : Tree) → AreTerms ts → IsTerm t → AreTerms (ts ++ t ∷ [])
terms_more [] t h b = (b, tt)
terms_more (x ∷ ts) t h b = (h.0, terms_more ts t h.1 b)

pub listed_none : (p : ℕ) (m : StoreMap) → AreListed p m 0 []
listed_none p m = record { codes = refl; bounded = tt }

-- One more object was read.
pub listed_more : (p : ℕ) (m : StoreMap) (at : ℕ) (ts : List Tree) (t : Tree) → IsStoreMap p m → at < length m → AreListed p m at ts
    → IsTerm t → (get_or m at nothing).1 ≡ code_of t → AreListed p m (at + 1) (ts ++ t ∷ [])
listed_more p m at ts t h l listed b e = record {
  codes = take_more m at nothing l
      ∙ ap (λ (x : StoreMap). x ++ get_or m at nothing ∷ []) listed.codes
      ∙ ap (λ (q : Pair). map (pair_of p) ts ++ q ∷ []) (same_pair p (get_or m at nothing) t (pair_in p m at h l) b e)
      ∙ sym (map-append (pair_of p) ts (t ∷ []));
  bounded = terms_more ts t listed.bounded b;
}

entry_of : (p : ℕ) (t : Tree) → IsTerm t → IsPair p (pair_of p t) → IsEntry p t
entry_of p t b h =
    let f = object_of_pair p (pair_of p t) h in subst (λ (x : Tree). IsEntry p x) (same_code f.object t f.bounded b (sym f.object_is)) f.entry

above_of : (p : ℕ) (t : Tree) (ts : List Tree) → IsTerm t → AreTerms ts → AreAbove (code_of (key_of p t)) (map (pair_of p) ts) → terms.AreAbove p t ts
above_of p t [] b h a = tt
above_of p t (x ∷ ts) b h a =
    (sym (compare_as_terms (key_of p t) (key_of p x) (key_is_term p t b) (key_is_term p x h.0)) ∙ a.0, above_of p t ts b h.1 a.1)

table_of : (p : ℕ) (ts : List Tree) → AreTerms ts → IsStoreMap p (map (pair_of p) ts) → IsTable p ts
table_of p [] h s = tt
table_of p (t ∷ ts) h s = (entry_of p t h.0 s.0, above_of p t ts h.0 h.1 s.1, table_of p ts h.1 s.2)

-- All objects were read: they are the table that the map stands for.
pub listed_all : (p : ℕ) (m : StoreMap) (ts : List Tree) → IsStoreMap p m → AreListed p m (length m) ts → Stands p m ts
listed_all p m ts h listed =
    let whole : m ≡ map (pair_of p) ts = sym (take_all (length m) m (omega arith)) ∙ listed.codes in
    record { codes = whole; ordered = table_of p ts listed.bounded (subst (λ (x : StoreMap). IsStoreMap p x) whole h); bounded = listed.bounded }
