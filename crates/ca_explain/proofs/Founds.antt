-- What a store map has at a key's code, as terms.
use Rattle.std.proofs.Common.{◌≡◌, ◌≢◌, ℕ, Bool, true, false, List, [], ◌∷◌, map, refl, sym, ◌∙◌, ap, if◌then◌else◌}
use Rattle.std.specs.Prelude.{not, None, Some}
use Rattle.std.specs.Ordering.{is_eq}
use Rattle.ca_term.specs.Tree.{Tree, IsTerm, AreTerms}
use Rattle.ca_term.specs.Order.{term_cmp}
use Rattle.ca_term.specs.Code.{code_of}
use Rattle.ca_term.specs.Object.{key_of}
use Rattle.ca_ets.specs.OrderedMap.{get, del, IsEntry, IsTable}
use Rattle.ca_model.specs.StoreMap as bytes
use Rattle.ca_model.specs.StoreMap.{Pair, StoreMap, IsFound}
use Rattle.ca_explain.specs.Stands.{Stands, pair_of}
use Rattle.ca_explain.proofs.Keys.{key_is_term}
use Rattle.ca_explain.proofs.Filters.{get_stands, same_code}

no_object : (p : ℕ) (t : List Tree) → [] ≡ map (pair_of p) t → t ≡ []
no_object p [] e = refl
no_object p (o ∷ t) e = let pair = pair_of p o in let no : [] ≡ pair ∷ map (pair_of p) t = e in cc

-- the table's object of a key, whose code these bytes are
pub record FoundObject (p : ℕ) (t : List Tree) (k : Tree) (o : List ℕ) : Type 0 where
  pub object : Tree
  pub bounded : IsTerm object
  pub entry : IsEntry p object
  pub code_is : o ≡ code_of object
  pub key_is : key_of p object ≡ k
  pub got : get p t k ≡ object ∷ []

module _ (p : ℕ) (m : StoreMap) (t : List Tree) (st : Stands p m t) (k : Tree) (b : IsTerm k) where
  -- Where nothing is found at the key's code, the table has no object of the key.
  pub absent : IsFound m (code_of k) None → get p t k ≡ []
  absent e = no_object p (get p t k) (sym e ∙ (get_stands p m t st k b).codes)

  -- Where something is found at the key's code, the table has an object of the key.
  pub present : bytes.get m (code_of k) ≢ [] → get p t k ≢ []
  present some none = some ((get_stands p m t st k b).codes ∙ ap (map (pair_of p)) none)

  -- What is found at the key's code is the code of the table's object of the key.
  pub found_object : (o : List ℕ) → IsFound m (code_of k) (Some o) → FoundObject p t k o
  found_object o e = by (get p t k) refl (get_stands p m t st k b).ordered (get_stands p m t st k b).bounded (sym e ∙ (get_stands p m t st k b).codes)
    where
      by : (xs : List Tree) → get p t k ≡ xs → IsTable p xs → AreTerms xs → (code_of k, o) ∷ [] ≡ map (pair_of p) xs → FoundObject p t k o
      by [] is h c e = let one : Pair = (code_of k, o) in let no : one ∷ [] ≡ [] = e in cc
      by (x ∷ xs) is h c e =
          let one : Pair = (code_of k, o) in
          let other : Pair = pair_of p x in
          let whole : one ∷ [] ≡ other ∷ map (pair_of p) xs = e in
          let first : one ≡ other = cc in
          let rest : [] ≡ map (pair_of p) xs = cc in
          let key : code_of k ≡ code_of (key_of p x) = ap (λ (q : Pair). q.0) first in
          record {
            object = x;
            bounded = c.0;
            entry = h.0;
            code_is = ap (λ (q : Pair). q.1) first;
            key_is = same_code (key_of p x) k (key_is_term p x c.0) b (sym key);
            got = is ∙ ap (λ ys. x ∷ ys) (no_object p xs rest);
          }

  -- Where a term's code is found at the key's code, the term is the table's object of the key.
  pub found : (x : Tree) → IsTerm x → IsFound m (code_of k) (Some (code_of x)) → get p t k ≡ x ∷ []
  found x c e =
      let f = found_object (code_of x) e in
      f.got ∙ ap (λ (y : Tree). y ∷ []) (same_code f.object x f.bounded c (sym f.code_is))

-- Where no object has the key, nothing is taken out.
pub del_none : (p : ℕ) (t : List Tree) (k : Tree) → get p t k ≡ [] → del p t k ≡ t
del_none p [] k e = refl
del_none p (o ∷ t) k e = by (is_eq (term_cmp (key_of p o) k)) e (del_none p t k)
  where
    by : (b : Bool) → (if b then o ∷ get p t k else get p t k) ≡ [] → (get p t k ≡ [] → del p t k ≡ t)
        → (if not b then o ∷ del p t k else del p t k) ≡ o ∷ t
    by true e rest = let no : o ∷ get p t k ≡ [] = e in cc
    by false e rest = ap (λ x. o ∷ x) (rest e)
