-- Edits keep a store map.
use Rattle.std.proofs.Common.{◌≡◌, ℕ, Bool, true, false, List, [], ◌∷◌, ◌++◌, refl, ap, subst, ◌∙◌, if◌then◌else◌}
use Rattle.std.specs.Prelude.{filter, not}
use Rattle.std.specs.declared.cmp.Ordering.{Ordering}
use Rattle.std.specs.declared.cmp.Ordering.TheVariants.{Less, Equal, Greater}
use Rattle.std.specs.Ordering.{is_lt, is_eq, is_gt, ordering_reverse}
use Rattle.ca_model.specs.StoreMap.{Pair, StoreMap, bytes_cmp, get, below, above, put, IsPair, AreAbove, IsStoreMap}
use Rattle.ca_model.specs.History.{Edit, Put, Del, History, after_edit, after, IsEdit, AreEdits}
use Rattle.ca_model.proofs.Places.{bytes_flip, bytes_chain}

-- the keys of all these are less than k
abbrev AreBelow : StoreMap → List ℕ → Type 0
AreBelow [] k = Unit {0}
AreBelow (q ∷ m) k = (bytes_cmp q.0 k ≡ Less) × AreBelow m k

below_are : (m : StoreMap) (k : List ℕ) → AreBelow (below m k) k
below_are [] k = tt
below_are (q ∷ m) k = by (bytes_cmp q.0 k) refl (below_are m k)
  where
    by : (r : Ordering) → bytes_cmp q.0 k ≡ r → AreBelow (below m k) k → AreBelow (if is_lt r then q ∷ below m k else below m k) k
    by Less e rest = (e, rest)
    by Equal e rest = rest
    by Greater e rest = rest

above_are : (k : List ℕ) (m : StoreMap) → AreAbove k (above m k)
above_are k [] = tt
above_are k (q ∷ m) = by (bytes_cmp q.0 k) refl (above_are k m)
  where
    by : (r : Ordering) → bytes_cmp q.0 k ≡ r → AreAbove k (above m k) → AreAbove k (if is_gt r then q ∷ above m k else above m k)
    by Less e rest = rest
    by Equal e rest = rest
    by Greater e rest = (bytes_flip k q.0 ∙ ap ordering_reverse e, rest)

-- what is above a greater key is above a less one
above_far : (j k : List ℕ) (m : StoreMap) → bytes_cmp j k ≡ Less → AreAbove k m → AreAbove j m
above_far j k [] e a = tt
above_far j k (q ∷ m) e a = (bytes_chain j k q.0 e a.0, above_far j k m e a.1)

above_append : (k : List ℕ) (xs ys : StoreMap) → AreAbove k xs → AreAbove k ys → AreAbove k (xs ++ ys)
above_append k [] ys a b = b
above_append k (x ∷ xs) ys a b = (a.0, above_append k xs ys a.1 b)

above_filter : (k : List ℕ) (m : StoreMap) (f : Pair → Bool) → AreAbove k m → AreAbove k (filter f m)
above_filter k [] f a = tt
above_filter k (q ∷ m) f a = by (f q) (above_filter k m f a.1)
  where
    by : (b : Bool) → AreAbove k (filter f m) → AreAbove k (if b then q ∷ filter f m else filter f m)
    by true rest = (a.0, rest)
    by false rest = rest

-- Some pairs of a store map are a store map.
pub map_filter : (p : ℕ) (m : StoreMap) (f : Pair → Bool) → IsStoreMap p m → IsStoreMap p (filter f m)
map_filter p [] f t = tt
map_filter p (q ∷ m) f t = by (f q) (map_filter p m f t.2)
  where
    by : (b : Bool) → IsStoreMap p (filter f m) → IsStoreMap p (if b then q ∷ filter f m else filter f m)
    by true rest = (t.0, above_filter q.0 m f t.1, rest)
    by false rest = rest

-- a map, and behind it another one whose first key is greater
map_append : (p : ℕ) (xs : StoreMap) (q : Pair) (ys : StoreMap) → AreBelow xs q.0 → IsStoreMap p xs → IsStoreMap p (q ∷ ys) → IsStoreMap p (xs ++ q ∷ ys)
map_append p [] q ys b s t = t
map_append p (x ∷ xs) q ys b s t =
    (s.0, above_append x.0 xs (q ∷ ys) s.1 (b.0, above_far x.0 q.0 ys b.0 t.1), map_append p xs q ys b.1 s.2 t)

map_put : (p : ℕ) (m : StoreMap) (k o : List ℕ) → IsStoreMap p m → IsPair p (k, o) → IsStoreMap p (put m k o)
map_put p m k o t e =
    map_append p (below m k) (k, o) (above m k) (below_are m k) (map_filter p m (λ q. is_lt (bytes_cmp q.0 k)) t)
    (e, above_are k m, map_filter p m (λ q. is_gt (bytes_cmp q.0 k)) t)

-- An edit keeps a store map.
pub map_after_edit : (p : ℕ) (e : Edit) (m : StoreMap) → IsEdit p e → IsStoreMap p m → IsStoreMap p (after_edit e m)
map_after_edit p (Put k o) m e t = map_put p m k o t e
map_after_edit p (Del k) m e t = map_filter p m (λ q. not (is_eq (bytes_cmp q.0 k))) t

-- Edits keep a store map.
pub map_after : (p : ℕ) (steps : History) (m : StoreMap) → AreEdits p steps → IsStoreMap p m → IsStoreMap p (after steps m)
map_after p [] m e t = t
map_after p (step ∷ steps) m e t = map_after p steps (after_edit step.1 m) e.1 (map_after_edit p step.1 m e.0 t)

-- What a store map has at a key is an object with the key.
pub found_pair : (p : ℕ) (m : StoreMap) (k o : List ℕ) → IsStoreMap p m → get m k ≡ (k, o) ∷ [] → IsPair p (k, o)
found_pair p m k o t e = (subst (λ (x : StoreMap). IsStoreMap p x) e (map_filter p m (λ q. is_eq (bytes_cmp q.0 k)) t)).0
