-- Where a key stands in a table: what a search of the list answers.
use Rattle.std.proofs.Common.{◌≡◌, ℕ, zero, suc, ◌≤◌, ◌<◌, ◌+◌, false, List, [], ◌∷◌, ◌++◌, length, take, drop, set, get_or, arith, refl, sym, ◌∙◌, ap, Ok, Err, Result}
use Rattle.std.proofs.lemmas.List.{take-append-drop, take-set, drop-set}
use Rattle.std.proofs.lemmas.List.Sorted.{searchable_from_sorted}
use Rattle.std.specs.declared.cmp.Ordering.{Ordering}
use Rattle.std.specs.declared.cmp.Ordering.TheVariants.{Less, Equal, Greater}
use Rattle.std.specs.List.Sorted.{IsBinarySearchResult, IsSearchInRange, IsSortedBy, IsNonDecreasingBy}
use Rattle.std.specs.Ordering.{is_lt, ordering_reverse, ordering_index}
use Rattle.ca_term.specs.Tree.{Tree, Nil}
use Rattle.ca_term.specs.Order.{term_cmp}
use Rattle.ca_term.proofs.TotalOrder.{tree_flip, term_cmp_total}
use Rattle.ca_term.specs.Object.{key_of}
use Rattle.ca_ets.specs.OrderedMap.{below, get, above, put, del, AreAbove, IsTable}
use Rattle.ca_ets.specs.Place.{IsAt, IsBefore, IsInRange, IsPlace, placed}
use Rattle.ca_ets.specs.declared.table.Place.{Place}
use Rattle.ca_ets.specs.declared.table.Place.TheVariants.{At, Before}

-- the keys of all these are greater than k
abbrev pub AreGreater : ℕ → List Tree → Tree → Type 0
AreGreater p [] k = Unit {0}
AreGreater p (o ∷ m) k = (term_cmp (key_of p o) k ≡ Greater) × AreGreater p m k

none_below : (p : ℕ) (m : List Tree) (k : Tree) → AreGreater p m k → below p m k ≡ []
none_below p [] k g = refl
none_below p (o ∷ m) k g = rw g.0 (none_below p m k g.1)

none_at : (p : ℕ) (m : List Tree) (k : Tree) → AreGreater p m k → get p m k ≡ []
none_at p [] k g = refl
none_at p (o ∷ m) k g = rw g.0 (none_at p m k g.1)

all_above : (p : ℕ) (m : List Tree) (k : Tree) → AreGreater p m k → above p m k ≡ m
all_above p [] k g = refl
all_above p (o ∷ m) k g = rw g.0 (ap (λ x. o ∷ x) (all_above p m k g.1))

none_out : (p : ℕ) (m : List Tree) (k : Tree) → AreGreater p m k → del p m k ≡ m
none_out p [] k g = refl
none_out p (o ∷ m) k g = rw g.0 (ap (λ x. o ∷ x) (none_out p m k g.1))

-- What stands above an object whose key is k is greater than k.
greater_than : (p : ℕ) (o : Tree) (m : List Tree) (k : Tree) → term_cmp (key_of p o) k ≡ Equal → AreAbove p o m → AreGreater p m k
greater_than p o [] k e a = tt
greater_than p o (q ∷ m) k e a =
    let less : term_cmp k (key_of p q) ≡ Less = sym (term_cmp_total.congr (key_of p o) k (key_of p q) e) ∙ a.0 in
    (tree_flip (key_of p q) k ∙ ap ordering_reverse less, greater_than p o m k e a.1)

at_first : (p : ℕ) (o : Tree) (m : List Tree) (k : Tree) → AreAbove p o m → term_cmp (key_of p o) k ≡ Equal → IsAt p (o ∷ m) k 0
at_first p o m k a e =
    let g = greater_than p o m k e a in
    record {
      in_range = omega arith;
      less = rw e (none_below p m k g);
      equal = rw e (ap (λ x. o ∷ x) (none_at p m k g));
      greater = rw e (all_above p m k g);
      others = rw e (none_out p m k g);
    }

at_more : (p : ℕ) (o : Tree) (m : List Tree) (k : Tree) (i : ℕ) → term_cmp (key_of p o) k ≡ Less → IsAt p m k i → IsAt p (o ∷ m) k (suc i)
at_more p o m k i e h =
    let s : suc i + 1 ≡ suc (i + 1) = omega arith in
    record {
      in_range = omega arith;
      less = rw e (ap (λ x. o ∷ x) h.less);
      equal = rw e h.equal;
      greater = rw (e, s) h.greater;
      others = rw e (ap (λ x. o ∷ x) h.others);
    }

before_first : (p : ℕ) (m : List Tree) (k : Tree) → AreGreater p m k → IsBefore p m k 0
before_first p m k g =
    record { in_range = omega arith; less = none_below p m k g; equal = none_at p m k g; greater = all_above p m k g; others = none_out p m k g }

before_more : (p : ℕ) (o : Tree) (m : List Tree) (k : Tree) (i : ℕ) → term_cmp (key_of p o) k ≡ Less → IsBefore p m k i → IsBefore p (o ∷ m) k (suc i)
before_more p o m k i e h = record {
  in_range = omega arith;
  less = rw e (ap (λ x. o ∷ x) h.less);
  equal = rw e h.equal;
  greater = rw e h.greater;
  others = rw e (ap (λ x. o ∷ x) h.others);
}

-- An object of a table is less than a later one.
above_item : (p : ℕ) (o : Tree) (m : List Tree) (i : ℕ) (d : Tree) → AreAbove p o m → i < length m → term_cmp (key_of p o) (key_of p (get_or m i d)) ≡ Less
above_item p o [] i d a h = absurd (omega arith)
above_item p o (q ∷ m) zero d a h = a.0
above_item p o (q ∷ m) (suc i) d a h = above_item p o m i d a.1 (omega arith)

-- An object with the key is found at its place.
pub found : (p : ℕ) (m : List Tree) (k : Tree) (i : ℕ) → IsTable p m → i < length m → term_cmp (key_of p (get_or m i Nil)) k ≡ Equal → IsAt p m k i
found p [] k i t h e = absurd (omega arith)
found p (o ∷ m) k zero t h e = at_first p o m k t.1 e
found p (o ∷ m) k (suc i) t h e =
    let q = key_of p (get_or m i Nil) in
    let same : term_cmp (key_of p o) k ≡ term_cmp (key_of p o) q = sym (alike_right (key_of p o) q k e) in
    at_more p o m k i (same ∙ above_item p o m i Nil t.1 (omega arith)) (found p m k i t.2 (omega arith) e)
  where
    alike_right : (a q k : Tree) → term_cmp q k ≡ Equal → term_cmp a q ≡ term_cmp a k
    alike_right a q k e = tree_flip a q ∙ ap ordering_reverse (term_cmp_total.congr q k a e) ∙ sym (tree_flip a k)

-- Where each item is greater, all are.
all_greater : (p : ℕ) (m : List Tree) (k : Tree) → ((j : ℕ) (d : Tree) → j < length m → term_cmp (key_of p (get_or m j d)) k ≡ Greater) → AreGreater p m k
all_greater p [] k g = tt
all_greater p (o ∷ m) k g = (g 0 Nil (omega arith), all_greater p m k (λ j d h. g (suc j) d (omega arith)))

-- A key between the keys before a place and those from there on would stand there.
pub not_found : (p : ℕ) (m : List Tree) (k : Tree) (i : ℕ) → i ≤ length m →
    ((j : ℕ) (d : Tree) → j < i → term_cmp (key_of p (get_or m j d)) k ≡ Less) →
    ((j : ℕ) (d : Tree) → i ≤ j → j < length m → term_cmp (key_of p (get_or m j d)) k ≡ Greater) →
    IsBefore p m k i
not_found p m k zero h l g = before_first p m k (all_greater p m k (λ j d r. g j d (omega arith) r))
not_found p [] k (suc i) h l g = absurd (omega arith)
not_found p (o ∷ m) k (suc i) h l g =
    before_more p o m k i (l 0 Nil (omega arith))
    (not_found p m k i (omega arith) (λ j d r. l (suc j) d (omega arith)) (λ j d r s. g (suc j) d (omega arith) (omega arith)))

-- The keys of a table rise.
keys_rise : (p : ℕ) (m : List Tree) → IsTable p m → IsSortedBy (λ a b. is_lt (term_cmp (key_of p a) (key_of p b))) m
keys_rise p m t i d l h = by (term_cmp (key_of p (get_or m i d)) (key_of p (get_or m (i + 1) d))) refl
  where
    next : (m : List Tree) (i : ℕ) → IsTable p m → i + 1 < length m → term_cmp (key_of p (get_or m i d)) (key_of p (get_or m (i + 1) d)) ≡ Less
    next [] i t h = absurd (omega arith)
    next (o ∷ m) zero t h = above_item p o m 0 d t.1 (omega arith)
    next (o ∷ m) (suc i) t h = let s : suc i + 1 ≡ suc (i + 1) = omega arith in rw s (next m i t.2 (omega arith))

    by : (r : Ordering) → term_cmp (key_of p (get_or m i d)) (key_of p (get_or m (i + 1) d)) ≡ r
        → is_lt (term_cmp (key_of p (get_or m (i + 1) d)) (key_of p (get_or m i d))) ≡ false
    by r e = ap is_lt (tree_flip (key_of p (get_or m (i + 1) d)) (key_of p (get_or m i d)) ∙ ap ordering_reverse (next m i t h))

-- the place that a search answers with
abbrev pub place_of : Result ℕ ℕ → Place
place_of (Ok i) = At i
place_of (Err i) = Before i

-- A binary search by the keys of a table finds the place of a key.
pub searched : (p : ℕ) (m : List Tree) (k : Tree) (r : Result ℕ ℕ) → IsTable p m → IsSearchInRange r (length m)
    → IsBinarySearchResult (λ o. term_cmp (key_of p o) k) m r → IsPlace p m k (place_of r)
searched p m k (Ok i) t b s = found p m k i t b (s Nil)
searched p m k (Err i) t b s =
    let rises : IsNonDecreasingBy (λ o. ordering_index (term_cmp (key_of p o) k)) m = searchable_from_sorted term_cmp_total (key_of p) m k (keys_rise p m t) in
    let parts = s rises in
    not_found p m k i b (λ j d h. parts.0 j d (omega arith) h) (λ j d h l. parts.1 j d h l)

-- A place lies in its list, or at the end.
pub place_range : (p : ℕ) (m : List Tree) (k : Tree) (r : Place) → IsPlace p m k r → IsInRange (length m) r
place_range p m k (At i) h = h.in_range
place_range p m k (Before i) h = h.in_range

set_is : (m : List Tree) (i : ℕ) (o : Tree) → i < length m → set m i o ≡ take i m ++ o ∷ drop (i + 1) m
set_is m i o h = sym (take-append-drop i (set m i o)) ∙ rw (take-set m i o, drop-set m i o h)

-- An object at the place of its key makes a put.
pub placed_is : (p : ℕ) (m : List Tree) (o : Tree) (r : Place) → IsPlace p m (key_of p o) r → placed m r o ≡ put p m o
placed_is p m o (At i) h = rw (h.less, h.greater) (set_is m i o h.in_range)
placed_is p m o (Before i) h = rw (h.less, h.greater)
