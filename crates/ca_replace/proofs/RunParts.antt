-- What parts of a store map, one behind the other, have within an edge.
use Rattle.std.proofs.Common.{◌≡◌, ℕ, suc, ◌+◌, ◌-◌, ◌<◌, ◌≤◌, Bool, true, false, List, [], ◌∷◌, ◌++◌, if◌then◌else◌, length, take, drop, get_or, refl, sym, ◌∙◌, ap, arith, append-nil, min, length-drop, Some}
use Rattle.std.proofs.lemmas.List.{drop-append-le, drop_all, length-take, length-append, length-map}
use Rattle.std.proofs.lemmas.List.Elements.{filter-append}
use Rattle.std.specs.Prelude.{not, filter, slice_range}
use Rattle.std.specs.declared.cmp.Ordering.{Ordering}
use Rattle.std.specs.declared.cmp.Ordering.TheVariants.{Less, Equal, Greater}
use Rattle.std.specs.Ordering.{is_lt, is_gt}
use Rattle.ca_model.specs.StoreMap.{Pair, StoreMap, bytes_cmp, AreAbove, IsStoreMap}
use Rattle.ca_model.specs.Edges.{Bound, Unbounded, Included, Excluded, is_from, is_up_to, from, up_to, within, last_object}
use Rattle.ca_model.specs.Slab.{nothing}
use Rattle.ca_model.proofs.Places.{AreGreater, all_above, greater, greater_than}
use Rattle.ca_model.proofs.Edits.{map_filter}
use Rattle.ca_model.proofs.Spots.{last_there, none_behind, part_within}

above_behind : (k : List ℕ) (xs ys : StoreMap) → AreAbove k (xs ++ ys) → AreAbove k ys
above_behind k [] ys a = a
above_behind k (x ∷ xs) ys a = above_behind k xs ys a.1

-- and behind a key within a lower edge all keys are.
all_behind : (lo : Bound) (q : Pair) (m : StoreMap) → is_from lo q.0 ≡ true → AreAbove q.0 m
    → from lo m ≡ m
all_behind Unbounded q m in_it a = all m
  where
    all : (m : StoreMap) → from Unbounded m ≡ m
    all [] = refl
    all (x ∷ m) = ap (λ y. x ∷ y) (all m)
all_behind (Included k) q m in_it a = by (bytes_cmp q.0 k) refl in_it
  where
    far : (m : StoreMap) → AreGreater m k → from (Included k) m ≡ m
    far [] g = refl
    far (x ∷ m) g = rw g.0 (ap (λ y. x ∷ y) (far m g.1))

    by : (o : Ordering) → bytes_cmp q.0 k ≡ o → not (is_lt o) ≡ true → from (Included k) m ≡ m
    by Less is in_it = cc
    by Equal is in_it = far m (greater_than q m k is a)
    by Greater is in_it = far m (greater q m k is a)
all_behind (Excluded k) q m in_it a = by (bytes_cmp q.0 k) refl in_it
  where
    by : (o : Ordering) → bytes_cmp q.0 k ≡ o → is_gt o ≡ true → from (Excluded k) m ≡ m
    by Less is in_it = cc
    by Equal is in_it = cc
    by Greater is in_it = all_above m k (greater q m k is a)

from_rest : (p : ℕ) (lo : Bound) (xs ys : StoreMap) → IsStoreMap p (xs ++ ys)
    → 0 < length (from lo xs) → from lo ys ≡ ys
from_rest p lo [] ys t some = absurd (omega arith)
from_rest p lo (x ∷ xs) ys t some = by (is_from lo x.0) refl some (from_rest p lo xs ys t.2)
  where
    by : (b : Bool) → is_from lo x.0 ≡ b → 0 < length (if b then x ∷ from lo xs else from lo xs)
        → (0 < length (from lo xs) → from lo ys ≡ ys) → from lo ys ≡ ys
    by true is some rec = all_behind lo x ys is (above_behind x.0 xs ys t.1)
    by false is some rec = rec some

-- The first part has some within the lower edge: all behind them are.
pub start_here : (p : ℕ) (lo : Bound) (part rest : StoreMap) (start : ℕ)
    → IsStoreMap p (part ++ rest) → from lo part ≡ drop start part → start < length part
    → drop start (part ++ rest) ≡ from lo (part ++ rest)
start_here p lo part rest start t is l = let long = length-drop start part in
    drop-append-le start part rest (omega arith)
    ∙ (ap (λ (x : StoreMap). x ++ rest) (sym is)
    ∙ (ap (λ (x : StoreMap). from lo part ++ x)
    (sym (from_rest p lo part rest t (omega (arith, ap length is, long))))
    ∙ sym (filter-append (λ (q : Pair). is_from lo q.0) part rest)))

-- It has none.
pub start_behind : (lo : Bound) (part rest : StoreMap) (start : ℕ) → from lo part ≡ drop start part
    → length part ≤ start → from lo (part ++ rest) ≡ from lo rest
start_behind lo part rest start is l = filter-append (λ (q : Pair). is_from lo q.0) part rest
    ∙ ap (λ (x : StoreMap). x ++ from lo rest) (is ∙ drop_all start part l)

-- How many both have within both edges.
pub many_more : (p : ℕ) (lo hi : Bound) (part rest : StoreMap) (start end : ℕ) → IsStoreMap p part
    → from lo part ≡ drop start part
    → up_to hi part ≡ take end part → end ≤ length part → length (within lo hi (part ++ rest)) ≡ end
    - start + length (within lo hi rest)
many_more p lo hi part rest start end t from_is up_to_is l =
    ap length (ap (up_to hi) (filter-append (λ (q : Pair). is_from lo q.0) part rest)
    ∙ filter-append (λ (q : Pair). is_up_to hi q.0) (from lo part) (from lo rest))
    ∙ (length-append (within lo hi part) (within lo hi rest)
    ∙ ap (λ (n : ℕ). n + length (within lo hi rest)) here)
  where
    here : length (within lo hi part) ≡ end - start
    here = let n = min start end in let long = length-drop n part in
        sym (length-map (within lo hi part) (λ (q : Pair). q.1))
        ∙ (ap length (part_within p part lo hi start end n t from_is up_to_is refl)
        ∙ (length-map (slice_range part n end) (λ (q : Pair). q.1)
        ∙ (length-take (end - n) (drop n part) ∙ omega arith)))

-- What is within an upper edge stands in front.
up_to_taken : (p : ℕ) (hi : Bound) (m : StoreMap) → IsStoreMap p m
    → up_to hi m ≡ take (length (up_to hi m)) m
up_to_taken p hi [] t = refl
up_to_taken p hi (q ∷ m) t = by (is_up_to hi q.0) refl (up_to_taken p hi m t.2)
  where
    by : (b : Bool) → is_up_to hi q.0 ≡ b → up_to hi m ≡ take (length (up_to hi m)) m
        → (if b then q ∷ up_to hi m else up_to hi m) ≡ take
        (length (if b then q ∷ up_to hi m else up_to hi m)) (q ∷ m)
    by true is rec = ap (λ x. q ∷ x) rec
    by false is rec = let none : up_to hi m ≡ [] = none_behind hi q m is t.1 in rw none refl

pub within_taken : (p : ℕ) (lo hi : Bound) (m : StoreMap) → IsStoreMap p m
    → within lo hi m ≡ take (length (within lo hi m)) (from lo m)
within_taken p lo hi m t = up_to_taken p hi (from lo m) (map_filter p m (λ q. is_from lo q.0) t)

filter_short : (f : Pair → Bool) (m : StoreMap) → length (filter f m) ≤ length m
filter_short f [] = omega arith
filter_short f (q ∷ m) = by (f q) (filter_short f m)
  where
    by : (b : Bool) → length (filter f m) ≤ length m
        → length (if b then q ∷ filter f m else filter f m) ≤ length (q ∷ m)
    by true rec = omega arith
    by false rec = omega arith

pub within_short : (lo hi : Bound) (m : StoreMap) → length (within lo hi m) ≤ length (from lo m)
within_short lo hi m = filter_short (λ q. is_up_to hi q.0) (from lo m)

-- The last one of some is that of all.
last_behind : (q : Pair) (m : StoreMap) (o : List ℕ) → last_object m ≡ Some o
    → last_object (q ∷ m) ≡ Some o
last_behind q [] o is = cc
last_behind q (x ∷ m) o is = is

last_of_both : (xs ys : StoreMap) (o : List ℕ) → last_object ys ≡ Some o
    → last_object (xs ++ ys) ≡ Some o
last_of_both [] ys o is = is
last_of_both (x ∷ xs) ys o is = last_behind x (xs ++ ys) o (last_of_both xs ys o is)

-- The last object within an upper edge, where the last part that has one has it.
pub last_in : (hi : Bound) (before part behind : StoreMap) (at : ℕ) → up_to hi behind ≡ []
    → up_to hi part ≡ take (suc at) part → at < length part
    → last_object (up_to hi (before ++ (part ++ behind))) ≡ Some (get_or part at nothing).1
last_in hi before part behind at none is l =
    ap last_object (filter-append (λ (q : Pair). is_up_to hi q.0) before (part ++ behind)
    ∙ ap (λ (x : StoreMap). up_to hi before ++ x) (filter-append (λ (q : Pair). is_up_to hi q.0)
    part behind
    ∙ (ap (λ (x : StoreMap). up_to hi part ++ x) none ∙ (append-nil (up_to hi part) ∙ is))))
    ∙ last_of_both (up_to hi before) (take (suc at) part) (get_or part at nothing).1
    (last_there part at l)

-- No part has one.
pub none_more : (hi : Bound) (part behind : StoreMap) (end : ℕ) → up_to hi behind ≡ []
    → up_to hi part ≡ take end part → end ≤ 0 → up_to hi (part ++ behind) ≡ []
none_more hi part behind end none is l = let zero_is : end ≡ 0 = omega arith in
    filter-append (λ (q : Pair). is_up_to hi q.0) part behind
    ∙ (ap (λ (x : StoreMap). up_to hi part ++ x) none
    ∙ (append-nil (up_to hi part) ∙ (is ∙ ap (λ (n : ℕ). take n part) zero_is)))
