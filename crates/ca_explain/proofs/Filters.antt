-- A map of bytes that stands for an ordered map of terms: what is filtered from the one stands for what is filtered from the other.
use Rattle.std.proofs.Common.{◌≡◌, ℕ, Bool, true, false, List, [], ◌∷◌, ◌++◌, map, refl, sym, ◌∙◌, ap, if◌then◌else◌, append-nil}
use Rattle.std.specs.Prelude.{filter, not}
use Rattle.std.proofs.lemmas.List.{map-append}
use Rattle.std.specs.declared.cmp.Ordering.{Ordering}
use Rattle.std.specs.Ordering.{is_lt, is_eq, is_gt}
use Rattle.ca_term.specs.Tree.{Tree, IsTerm, AreTerms}
use Rattle.ca_term.specs.Order.{term_cmp}
use Rattle.ca_term.specs.Code.{code_of}
use Rattle.ca_term.specs.Object.{key_of}
use Rattle.ca_term.proofs.Codes.{compare_as_terms, are_prefix_free}
use Rattle.ca_ets.specs.OrderedMap as terms
use Rattle.ca_ets.specs.OrderedMap.{IsEntry}
use Rattle.ca_ets.proofs.Puts.{table_put, table_filter}
use Rattle.ca_model.specs.StoreMap as bytes
use Rattle.ca_model.specs.StoreMap.{Pair, StoreMap, bytes_cmp}
use Rattle.ca_explain.specs.Stands.{Stands, pair_of}
use Rattle.ca_explain.proofs.Keys.{key_is_term}

module _ (p : ℕ) (k : Tree) (bounded : IsTerm k) (test : Ordering → Bool) where
  abbrev of_bytes : StoreMap → StoreMap
  of_bytes m = filter (λ q. test (bytes_cmp q.0 (code_of k))) m

  abbrev of_terms : List Tree → List Tree
  of_terms t = filter (λ o. test (term_cmp (key_of p o) k)) t

  -- Pairs whose key compares so with the code of k are those of the objects whose key compares so with k.
  pub filtered : (t : List Tree) → AreTerms t → of_bytes (map (pair_of p) t) ≡ map (pair_of p) (of_terms t)
  filtered [] h = refl
  filtered (o ∷ t) h =
      by (term_cmp (key_of p o) k) (compare_as_terms (key_of p o) k (key_is_term p o h.0) bounded) (filtered t h.1)
    where
      by : (r : Ordering) → bytes_cmp (code_of (key_of p o)) (code_of k) ≡ r → of_bytes (map (pair_of p) t) ≡ map (pair_of p) (of_terms t)
          → (if test (bytes_cmp (code_of (key_of p o)) (code_of k)) then pair_of p o ∷ of_bytes (map (pair_of p) t) else of_bytes (map (pair_of p) t))
          ≡ map (pair_of p) (if test r then o ∷ of_terms t else of_terms t)
      by r e rest = rw e (on (test r))
        where
          on : (b : Bool) → (if b then pair_of p o ∷ of_bytes (map (pair_of p) t) else of_bytes (map (pair_of p) t))
              ≡ map (pair_of p) (if b then o ∷ of_terms t else of_terms t)
          on true = ap (λ x. pair_of p o ∷ x) rest
          on false = rest

-- Some of many terms are terms.
pub terms_filter : (f : Tree → Bool) (t : List Tree) → AreTerms t → AreTerms (filter f t)
terms_filter f [] h = tt
terms_filter f (o ∷ t) h = by (f o) (terms_filter f t h.1)
  where
    by : (b : Bool) → AreTerms (filter f t) → AreTerms (if b then o ∷ filter f t else filter f t)
    by true rest = (h.0, rest)
    by false rest = rest

terms_append : (s t : List Tree) → AreTerms s → AreTerms t → AreTerms (s ++ t)
terms_append [] t h k = k
terms_append (o ∷ s) t h k = (h.0, terms_append s t h.1 k)

-- The empty map stands for the empty table.
pub empty_stands : (p : ℕ) → Stands p [] []
empty_stands p = record { codes = refl; ordered = tt; bounded = tt }

module _ (p : ℕ) (m : StoreMap) (t : List Tree) (st : Stands p m t) where
  -- The pairs whose key compares so with a key's code stand for the objects whose key does with the key.
  pub filter_stands : (k : Tree) → IsTerm k → (test : Ordering → Bool) →
      Stands p (filter (λ q. test (bytes_cmp q.0 (code_of k))) m) (filter (λ o. test (term_cmp (key_of p o) k)) t)
  filter_stands k b test = record {
    codes = ap (λ (x : StoreMap). filter (λ q. test (bytes_cmp q.0 (code_of k))) x) st.codes ∙ filtered p k b test t st.bounded;
    ordered = table_filter p t (λ o. test (term_cmp (key_of p o) k)) st.ordered;
    bounded = terms_filter (λ o. test (term_cmp (key_of p o) k)) t st.bounded;
  }

  -- What the map has at a key's code stands for what the table has at the key.
  pub get_stands : (k : Tree) → IsTerm k → Stands p (bytes.get m (code_of k)) (terms.get p t k)
  get_stands k b = filter_stands k b is_eq

  -- The pairs below a key's code stand for the objects below the key.
  pub below_stands : (k : Tree) → IsTerm k → Stands p (bytes.below m (code_of k)) (terms.below p t k)
  below_stands k b = filter_stands k b is_lt

  -- The pairs above a key's code stand for the objects above the key.
  pub above_stands : (k : Tree) → IsTerm k → Stands p (bytes.above m (code_of k)) (terms.above p t k)
  above_stands k b = filter_stands k b is_gt

  -- The map without a key's code stands for the table without the key.
  pub del_stands : (k : Tree) → IsTerm k → Stands p (bytes.del m (code_of k)) (terms.del p t k)
  del_stands k b = filter_stands k b (λ r. not (is_eq r))

  -- The map with an object's pair stands for the table with the object.
  pub put_stands : (o : Tree) → IsTerm o → IsEntry p o → Stands p (bytes.put m (code_of (key_of p o)) (code_of o)) (terms.put p t o)
  put_stands o b e =
      let k = key_of p o in
      let low = below_stands k (key_is_term p o b) in
      let high = above_stands k (key_is_term p o b) in
      record {
        codes = ap (λ (x : StoreMap). x ++ (code_of k, code_of o) ∷ bytes.above m (code_of k)) low.codes
            ∙ ap (λ (x : StoreMap). map (pair_of p) (terms.below p t k) ++ (code_of k, code_of o) ∷ x) high.codes
            ∙ sym (map-append (pair_of p) (terms.below p t k) (o ∷ terms.above p t k));
        ordered = table_put p t o st.ordered e;
        bounded = terms_append (terms.below p t k) (o ∷ terms.above p t k) low.bounded (b, high.bounded);
      }

-- One code is that of one term.
pub same_code : (x y : Tree) → IsTerm x → IsTerm y → code_of x ≡ code_of y → x ≡ y
same_code x y b c e = (are_prefix_free x y [] b c (append-nil (code_of x) ∙ e)).0

same_objects : (p : ℕ) (a b : List Tree) → AreTerms a → AreTerms b → map (pair_of p) a ≡ map (pair_of p) b → a ≡ b
same_objects p [] [] h k e = refl
same_objects p [] (y ∷ b) h k e = let pair = pair_of p y in let no : [] ≡ pair ∷ map (pair_of p) b = e in cc
same_objects p (x ∷ a) [] h k e = let pair = pair_of p x in let no : pair ∷ map (pair_of p) a ≡ [] = e in cc
same_objects p (x ∷ a) (y ∷ b) h k e =
    let one : Pair = pair_of p x in
    let other : Pair = pair_of p y in
    let whole : one ∷ map (pair_of p) a ≡ other ∷ map (pair_of p) b = e in
    let first : one ≡ other = cc in
    let rest : map (pair_of p) a ≡ map (pair_of p) b = cc in
    let same : x ≡ y = same_code x y h.0 k.0 (ap (λ (q : Pair). q.1) first) in
    let others : a ≡ b = same_objects p a b h.1 k.1 rest in
    λ i. same i ∷ others i

-- A map stands for one table.
pub same_table : (p : ℕ) (m : StoreMap) (a b : List Tree) → Stands p m a → Stands p m b → a ≡ b
same_table p m a b h k = same_objects p a b h.bounded k.bounded (sym h.codes ∙ k.codes)
