-- Where the parts of a store map begin and end that two edges give.
use Rattle.std.proofs.Common.{◌≡◌, ◌≢◌, ℕ, zero, suc, ◌≤◌, ◌<◌, ◌+◌, ◌-◌, Bool, true, false, List, [], ◌∷◌, ◌++◌, if◌then◌else◌, length, append-nil, take, drop, get_or, arith, refl, sym, ◌∙◌, ap, subst, Ok, Err, Result, Some}
use Rattle.std.specs.Prelude.{not, slice_range, min}
use Rattle.std.proofs.Math.Decide.{ℕ_discrete}
use Rattle.std.proofs.Math.Logic.{dite}
use Rattle.std.specs.declared.cmp.Ordering.{Ordering}
use Rattle.std.specs.declared.cmp.Ordering.TheVariants.{Less, Equal, Greater}
use Rattle.std.specs.List.Sorted.{IsBinarySearchResult, IsSearchInRange}
use Rattle.std.specs.Ordering.{is_lt, is_eq, is_gt}
use Rattle.ca_model.specs.StoreMap.{Pair, StoreMap, bytes_cmp, below, get, above, IsPair, AreAbove, IsStoreMap}
use Rattle.ca_model.specs.Slab.{nothing}
use Rattle.ca_model.specs.Edges.{Bound, Unbounded, Included, Excluded, is_up_to, from, up_to, within, objects_of, first_object, last_object}
use Rattle.ca_model.specs.RunView.{ArePlaces}
use Rattle.ca_model.proofs.Places.{searched, AreGreater, greater, greater_than, none_below, none_at}
use Rattle.ca_model.specs.Places.{IsAt, IsBefore, IsPlace}

-- The parts of a map within an edge at a key are those that an edit knows.
from_parts : (p : ℕ) (m : StoreMap) (k : List ℕ) → IsStoreMap p m → from (Included k) m ≡ get m k ++ above m k
from_parts p [] k t = refl
from_parts p (q ∷ m) k t = by (bytes_cmp q.0 k) refl (from_parts p m k t.2)
  where
    by : (o : Ordering) → bytes_cmp q.0 k ≡ o → from (Included k) m ≡ get m k ++ above m k →
        (if not (is_lt o) then q ∷ from (Included k) m else from (Included k) m)
        ≡ (if is_eq o then q ∷ get m k else get m k) ++ (if is_gt o then q ∷ above m k else above m k)
    by Less is rec = rec
    by Equal is rec = ap (λ x. q ∷ x) rec
    by Greater is rec =
        let none : get m k ≡ [] = none_at m k (greater q m k is t.1) in
        rw none (ap (λ x. q ∷ x) (rec ∙ ap (λ x. x ++ above m k) none))

up_to_parts : (p : ℕ) (m : StoreMap) (k : List ℕ) → IsStoreMap p m → up_to (Included k) m ≡ below m k ++ get m k
up_to_parts p [] k t = refl
up_to_parts p (q ∷ m) k t = by (bytes_cmp q.0 k) refl (up_to_parts p m k t.2)
  where
    by : (o : Ordering) → bytes_cmp q.0 k ≡ o → up_to (Included k) m ≡ below m k ++ get m k →
        (if not (is_gt o) then q ∷ up_to (Included k) m else up_to (Included k) m)
        ≡ (if is_lt o then q ∷ below m k else below m k) ++ (if is_eq o then q ∷ get m k else get m k)
    by Less is rec = ap (λ x. q ∷ x) rec
    by Equal is rec =
        let none : below m k ≡ [] = none_below m k (greater_than q m k is t.1) in
        rw none (ap (λ x. q ∷ x) (rec ∙ ap (λ x. x ++ get m k) none))
    by Greater is rec = rec

one_more : (m : StoreMap) (i : ℕ) → i < length m → get_or m i nothing ∷ drop (i + 1) m ≡ drop i m
one_more [] i h = absurd (omega arith)
one_more (q ∷ m) zero h = refl
one_more (q ∷ m) (suc i) h = let s : suc i + 1 ≡ suc (i + 1) = omega arith in rw s (one_more m i (omega arith))

one_taken : (m : StoreMap) (i : ℕ) → i < length m → take i m ++ get_or m i nothing ∷ [] ≡ take (i + 1) m
one_taken [] i h = absurd (omega arith)
one_taken (q ∷ m) zero h = refl
one_taken (q ∷ m) (suc i) h = let s : suc i + 1 ≡ suc (i + 1) = omega arith in rw s (ap (λ x. q ∷ x) (one_taken m i (omega arith)))

-- Where a key stands, or would stand, is where the parts begin and end that edges at it give.
pub edges_at : (p : ℕ) (m : StoreMap) (k : List ℕ) (i : ℕ) → IsStoreMap p m → IsAt m k i → ArePlaces m k i (i + 1)
edges_at p m k i t place = record {
  rising = omega arith;
  inside = omega (arith, place.in_range);
  from_it = from_parts p m k t ∙ rw (place.equal, place.greater) (one_more m i place.in_range);
  past_it = place.greater;
  up_to_it = up_to_parts p m k t ∙ rw (place.less, place.equal) (one_taken m i place.in_range);
  before_it = place.less;
}

pub edges_before : (p : ℕ) (m : StoreMap) (k : List ℕ) (i : ℕ) → IsStoreMap p m → IsBefore m k i → ArePlaces m k i i
edges_before p m k i t place = record {
  rising = omega arith;
  inside = place.in_range;
  from_it = from_parts p m k t ∙ rw place.equal place.greater;
  past_it = place.greater;
  up_to_it = up_to_parts p m k t ∙ rw (place.less, place.equal) (append-nil (take i m));
  before_it = place.less;
}

-- What a binary search by the keys answers gives the places of a key.
pub places_at : (p : ℕ) (m : StoreMap) (k : List ℕ) (r : Result ℕ ℕ) (i : ℕ) → IsStoreMap p m → IsSearchInRange r (length m)
    → IsBinarySearchResult (λ q. bytes_cmp q.0 k) m r → r ≡ Ok i → ArePlaces m k i (i + 1)
places_at p m k r i t b s e = edges_at p m k i t (subst (λ (x : Result ℕ ℕ). IsPlace m k x) e (searched p m k r t b s))

pub places_before : (p : ℕ) (m : StoreMap) (k : List ℕ) (r : Result ℕ ℕ) (i : ℕ) → IsStoreMap p m → IsSearchInRange r (length m)
    → IsBinarySearchResult (λ q. bytes_cmp q.0 k) m r → r ≡ Err i → ArePlaces m k i i
places_before p m k r i t b s e = edges_before p m k i t (subst (λ (x : Result ℕ ℕ). IsPlace m k x) e (searched p m k r t b s))

-- Each pair of a store map is an object under its key.
pub pair_there : (p : ℕ) (m : StoreMap) (i : ℕ) → IsStoreMap p m → i < length m → IsPair p (get_or m i nothing)
pair_there p [] i t h = absurd (omega arith)
pair_there p (q ∷ m) zero t h = t.0
pair_there p (q ∷ m) (suc i) t h = pair_there p m i t.2 (omega arith)

-- The first of the pairs from a place on, and the last one before a place.
pub first_there : (m : StoreMap) (i : ℕ) → i < length m → first_object (drop i m) ≡ Some (get_or m i nothing).1
first_there m i h = ap first_object (sym (one_more m i h))

pub last_there : (m : StoreMap) (i : ℕ) → i < length m → last_object (take (suc i) m) ≡ Some (get_or m i nothing).1
last_there [] i h = absurd (omega arith)
last_there (q ∷ m) zero h = refl
last_there (q ∷ []) (suc i) h = absurd (omega arith)
last_there (q ∷ x ∷ m) (suc i) h = last_there (x ∷ m) i (omega arith)

-- Behind a key that is beyond an upper edge all keys are.
pub none_behind : (hi : Bound) (q : Pair) (m : StoreMap) → is_up_to hi q.0 ≡ false → AreAbove q.0 m → up_to hi m ≡ []
none_behind Unbounded q m out a = cc
none_behind (Included k) q m out a = by (bytes_cmp q.0 k) refl out
  where
    far : (m : StoreMap) → AreGreater m k → up_to (Included k) m ≡ []
    far [] g = refl
    far (x ∷ m) g = rw g.0 (far m g.1)

    by : (o : Ordering) → bytes_cmp q.0 k ≡ o → not (is_gt o) ≡ false → up_to (Included k) m ≡ []
    by Less is out = cc
    by Equal is out = cc
    by Greater is out = far m (greater q m k is a)
none_behind (Excluded k) q m out a = by (bytes_cmp q.0 k) refl out
  where
    by : (o : Ordering) → bytes_cmp q.0 k ≡ o → is_lt o ≡ false → up_to (Excluded k) m ≡ []
    by Less is out = cc
    by Equal is out = none_below m k (greater_than q m k is a)
    by Greater is out = none_below m k (greater q m k is a)

none_of_part : (hi : Bound) (m : StoreMap) (s : ℕ) → up_to hi m ≡ [] → up_to hi (drop s m) ≡ []
none_of_part hi m zero e = e
none_of_part hi [] (suc s) e = refl
none_of_part hi (q ∷ m) (suc s) e = by (is_up_to hi q.0) e (none_of_part hi m s)
  where
    by : (b : Bool) → (if b then q ∷ up_to hi m else up_to hi m) ≡ [] → (up_to hi m ≡ [] → up_to hi (drop s m) ≡ []) → up_to hi (drop s m) ≡ []
    by true e rec = cc
    by false e rec = rec e

nothing_taken : (n : ℕ) → take {A = Pair} n [] ≡ []
nothing_taken zero = refl
nothing_taken (suc n) = refl

-- What of a map's part from a place on is within an upper edge.
up_to_part : (hi : Bound) (p : ℕ) (m : StoreMap) (s e : ℕ) → IsStoreMap p m → up_to hi m ≡ take e m → up_to hi (drop s m) ≡ take (e - s) (drop s m)
up_to_part hi p m zero e t h = let z : e - 0 ≡ e = omega arith in rw z h
up_to_part hi p [] (suc s) e t h = sym (nothing_taken (e - suc s))
up_to_part hi p (q ∷ m) (suc s) e t h = by (is_up_to hi q.0) refl e h (up_to_part hi p m s)
  where
    by : (b : Bool) → is_up_to hi q.0 ≡ b → (e : ℕ) → (if b then q ∷ up_to hi m else up_to hi m) ≡ take e (q ∷ m)
        → ((e : ℕ) → IsStoreMap p m → up_to hi m ≡ take e m → up_to hi (drop s m) ≡ take (e - s) (drop s m))
        → up_to hi (drop s m) ≡ take (e - suc s) (drop s m)
    by true is zero h rec = cc
    by true is (suc e) h rec =
        let tails : up_to hi m ≡ take e m = cc in
        let less : suc e - suc s ≡ e - s = omega arith in
        rw less (rec e t.2 tails)
    by false is zero h rec = let none : 0 - suc s ≡ 0 = omega arith in rw none (none_of_part hi m s h)
    by false is (suc e) h rec = let none : up_to hi m ≡ [] = none_behind hi q m is t.1 in cc

-- The objects within two edges are those of a part of the list.
pub part_within : (p : ℕ) (m : StoreMap) (lo hi : Bound) (s e n : ℕ) → IsStoreMap p m → from lo m ≡ drop s m → up_to hi m ≡ take e m → n ≡ min s e
    → objects_of (within lo hi m) ≡ objects_of (slice_range m n e)
part_within p m lo hi s e n t starts ends is = ap objects_of (rw starts (up_to_part hi p m s e t ends ∙ part))
  where
    part : take (e - s) (drop s m) ≡ slice_range m n e
    part = dite (ℕ_discrete (e - s) 0) (λ (h : e - s ≡ 0). let also : e - n ≡ 0 = omega (arith, is, h) in rw (h, also) refl)
        (λ (h : e - s ≢ 0). let same : n ≡ s = omega (arith, is, h) in rw same refl)

-- The next object of a part of the list, and what is left behind it.
pub next_of_part : (m : StoreMap) (i j : ℕ) → i < j → j ≤ length m
    → objects_of (slice_range m i j) ≡ (get_or m i nothing).1 ∷ objects_of (slice_range m (i + 1) j)
next_of_part m i j h k =
    let more : j - i ≡ suc (j - (i + 1)) = omega (arith, h) in
    rw (more, sym (one_more m i (omega (arith, h, k)))) refl
