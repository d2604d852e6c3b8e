-- Where a key stands in a store map, or would stand: what a binary search answers, and what edits do there.
use Rattle.std.proofs.Common.{◌≡◌, ℕ, zero, suc, ◌≤◌, ◌<◌, ◌+◌, List, [], ◌∷◌, ◌++◌, if◌then◌else◌, length, take, drop, set, get_or, arith, refl, sym, ◌∙◌, ap, Ok, Err, Result, Some}
use Rattle.std.proofs.lemmas.List.{take-append-drop, take-set, drop-set}
use Rattle.std.proofs.lemmas.List.Sorted.{searchable_from_sorted}
use Rattle.std.specs.Prelude.{not, filter}
use Rattle.std.specs.List.{remove}
use Rattle.std.specs.declared.cmp.Ordering.{Ordering}
use Rattle.std.specs.declared.cmp.Ordering.TheVariants.{Less, Equal, Greater}
use Rattle.std.specs.List.Sorted.{IsBinarySearchResult, IsSearchInRange, IsSortedBy, IsNonDecreasingBy}
use Rattle.std.specs.Ordering.{is_lt, is_eq, is_gt, ordering_reverse, ordering_index}
use Rattle.std.specs.Cmp.Lexicographic.{nat_list_cmp_total}
use Rattle.ca_term.proofs.Bytes.{same_bytes}
use Rattle.ca_model.specs.StoreMap.{Pair, StoreMap, bytes_cmp, below, get, above, put, del, IsFound, AreAbove, IsStoreMap}
use Rattle.ca_model.specs.Slab.{nothing, placed}
use Rattle.ca_model.specs.Places.{IsAt, IsBefore, IsPlace}

-- Byte lists compare the other way round.
pub bytes_flip : (a b : List ℕ) → bytes_cmp a b ≡ ordering_reverse (bytes_cmp b a)
bytes_flip a b = nat_list_cmp_total.antisymm a b

-- What is less than something less is less.
pub bytes_chain : (a b c : List ℕ) → bytes_cmp a b ≡ Less → bytes_cmp b c ≡ Less → bytes_cmp a c ≡ Less
bytes_chain a b c = nat_list_cmp_total.trans a b c

-- the keys of all these are greater than k
abbrev pub AreGreater : StoreMap → List ℕ → Type 0
AreGreater [] k = Unit {0}
AreGreater (q ∷ m) k = (bytes_cmp q.0 k ≡ Greater) × AreGreater m k

pub none_below : (m : StoreMap) (k : List ℕ) → AreGreater m k → below m k ≡ []
none_below [] k g = refl
none_below (q ∷ m) k g = rw g.0 (none_below m k g.1)

pub none_at : (m : StoreMap) (k : List ℕ) → AreGreater m k → get m k ≡ []
none_at [] k g = refl
none_at (q ∷ m) k g = rw g.0 (none_at m k g.1)

pub all_above : (m : StoreMap) (k : List ℕ) → AreGreater m k → above m k ≡ m
all_above [] k g = refl
all_above (q ∷ m) k g = rw g.0 (ap (λ x. q ∷ x) (all_above m k g.1))

-- what stands above a pair whose key is k
pub greater_than : (q : Pair) (m : StoreMap) (k : List ℕ) → bytes_cmp q.0 k ≡ Equal → AreAbove q.0 m → AreGreater m k
greater_than q [] k e a = tt
greater_than q (x ∷ m) k e a =
    let less : bytes_cmp k x.0 ≡ Less = sym (nat_list_cmp_total.congr q.0 k x.0 e) ∙ a.0 in
    (bytes_flip x.0 k ∙ ap ordering_reverse less, greater_than q m k e a.1)

-- what stands above a pair whose key is greater than k
pub greater : (q : Pair) (m : StoreMap) (k : List ℕ) → bytes_cmp q.0 k ≡ Greater → AreAbove q.0 m → AreGreater m k
greater q [] k g a = tt
greater q (x ∷ m) k g a =
    let less : bytes_cmp k q.0 ≡ Less = bytes_flip k q.0 ∙ ap ordering_reverse g in
    (bytes_flip x.0 k ∙ ap ordering_reverse (bytes_chain k q.0 x.0 less a.0), greater q m k g a.1)

at_first : (q : Pair) (m : StoreMap) (k : List ℕ) → AreAbove q.0 m → bytes_cmp q.0 k ≡ Equal → IsAt (q ∷ m) k 0
at_first q m k a e =
    let g = greater_than q m k e a in
    record {
      in_range = omega arith;
      less = rw e (none_below m k g);
      equal = rw e (ap (λ x. q ∷ x) (none_at m k g));
      greater = rw e (all_above m k g);
    }

at_more : (q : Pair) (m : StoreMap) (k : List ℕ) (i : ℕ) → bytes_cmp q.0 k ≡ Less → IsAt m k i → IsAt (q ∷ m) k (suc i)
at_more q m k i e h =
    let s : suc i + 1 ≡ suc (i + 1) = omega arith in
    record {
      in_range = omega arith;
      less = rw e (ap (λ x. q ∷ x) h.less);
      equal = rw e h.equal;
      greater = rw (e, s) h.greater;
    }

before_first : (m : StoreMap) (k : List ℕ) → AreGreater m k → IsBefore m k 0
before_first m k g = record { in_range = omega arith; less = none_below m k g; equal = none_at m k g; greater = all_above m k g }

before_more : (q : Pair) (m : StoreMap) (k : List ℕ) (i : ℕ) → bytes_cmp q.0 k ≡ Less → IsBefore m k i → IsBefore (q ∷ m) k (suc i)
before_more q m k i e h = record { in_range = omega arith; less = rw e (ap (λ x. q ∷ x) h.less); equal = rw e h.equal; greater = rw e h.greater }

-- a pair of a map is less than a later one
above_item : (q : Pair) (m : StoreMap) (i : ℕ) (d : Pair) → AreAbove q.0 m → i < length m → bytes_cmp q.0 (get_or m i d).0 ≡ Less
above_item q [] i d a h = absurd (omega arith)
above_item q (x ∷ m) zero d a h = a.0
above_item q (x ∷ m) (suc i) d a h = above_item q m i d a.1 (omega arith)

at_key : (p : ℕ) (m : StoreMap) (k : List ℕ) (i : ℕ) → IsStoreMap p m → i < length m → bytes_cmp (get_or m i nothing).0 k ≡ Equal → IsAt m k i
at_key p [] k i t h e = absurd (omega arith)
at_key p (q ∷ m) k zero t h e = at_first q m k t.1 e
at_key p (q ∷ m) k (suc i) t h e =
    let x = (get_or m i nothing).0 in
    let same : bytes_cmp q.0 k ≡ bytes_cmp q.0 x = sym (alike_right q.0 x k e) in
    at_more q m k i (same ∙ above_item q m i nothing t.1 (omega arith)) (at_key p m k i t.2 (omega arith) e)
  where
    alike_right : (a x k : List ℕ) → bytes_cmp x k ≡ Equal → bytes_cmp a x ≡ bytes_cmp a k
    alike_right a x k e = bytes_flip a x ∙ ap ordering_reverse (nat_list_cmp_total.congr x k a e) ∙ sym (bytes_flip a k)

-- from a fact for each pair
all_greater : (m : StoreMap) (k : List ℕ) → ((j : ℕ) (d : Pair) → j < length m → bytes_cmp (get_or m j d).0 k ≡ Greater) → AreGreater m k
all_greater [] k g = tt
all_greater (q ∷ m) k g = (g 0 nothing (omega arith), all_greater m k (λ j d h. g (suc j) d (omega arith)))

before_key : (m : StoreMap) (k : List ℕ) (i : ℕ) → i ≤ length m →
    ((j : ℕ) (d : Pair) → j < i → bytes_cmp (get_or m j d).0 k ≡ Less) →
    ((j : ℕ) (d : Pair) → i ≤ j → j < length m → bytes_cmp (get_or m j d).0 k ≡ Greater) →
    IsBefore m k i
before_key m k zero h l g = before_first m k (all_greater m k (λ j d r. g j d (omega arith) r))
before_key [] k (suc i) h l g = absurd (omega arith)
before_key (q ∷ m) k (suc i) h l g =
    before_more q m k i (l 0 nothing (omega arith))
    (before_key m k i (omega arith) (λ j d r. l (suc j) d (omega arith)) (λ j d r s. g (suc j) d (omega arith) (omega arith)))

-- the keys of a map rise
keys_rise : (p : ℕ) (m : StoreMap) → IsStoreMap p m → IsSortedBy (λ a b. is_lt (bytes_cmp a.0 b.0)) m
keys_rise p m t i d l h =
    let next : bytes_cmp (get_or m i d).0 (get_or m (i + 1) d).0 ≡ Less = rises m i t h in
    ap is_lt (bytes_flip (get_or m (i + 1) d).0 (get_or m i d).0 ∙ ap ordering_reverse next)
  where
    rises : (m : StoreMap) (i : ℕ) → IsStoreMap p m → i + 1 < length m → bytes_cmp (get_or m i d).0 (get_or m (i + 1) d).0 ≡ Less
    rises [] i t h = absurd (omega arith)
    rises (q ∷ m) zero t h = above_item q m 0 d t.1 (omega arith)
    rises (q ∷ m) (suc i) t h = let s : suc i + 1 ≡ suc (i + 1) = omega arith in rw s (rises m i t.2 (omega arith))

-- What a binary search by the keys answers is the key's place.
pub searched : (p : ℕ) (m : StoreMap) (k : List ℕ) (r : Result ℕ ℕ) → IsStoreMap p m → IsSearchInRange r (length m)
    → IsBinarySearchResult (λ q. bytes_cmp q.0 k) m r → IsPlace m k r
searched p m k (Ok i) t b s = at_key p m k i t b (s nothing)
searched p m k (Err i) t b s =
    let rises : IsNonDecreasingBy (λ q. ordering_index (bytes_cmp q.0 k)) m = searchable_from_sorted nat_list_cmp_total (λ (x : Pair). x.0) m k
    (keys_rise p m t) in
    let parts = s rises in
    before_key m k i b (λ j d h. parts.0 j d (omega arith) h) (λ j d h l. parts.1 j d h l)

-- A pair that is put at its key's place is put into the map.
pub placed_is : (m : StoreMap) (q : Pair) (r : Result ℕ ℕ) → IsPlace m q.0 r → placed m r q ≡ put m q.0 q.1
placed_is m q (Ok i) h = sym (rw (h.less, h.greater) (sym (set_split m i q h.in_range)))
  where
    set_split : (m : StoreMap) (i : ℕ) (q : Pair) → i < length m → set m i q ≡ take i m ++ q ∷ drop (i + 1) m
    set_split m i q l = sym (take-append-drop i (set m i q)) ∙ rw (take-set m i q, drop-set m i q l) refl
placed_is m q (Err i) h = sym (rw (h.less, h.greater) refl)

del_parts : (p : ℕ) (m : StoreMap) (k : List ℕ) → IsStoreMap p m → del m k ≡ below m k ++ above m k
del_parts p [] k t = refl
del_parts p (q ∷ m) k t = by (bytes_cmp q.0 k) refl (del_parts p m k t.2)
  where
    by : (o : Ordering) → bytes_cmp q.0 k ≡ o → del m k ≡ below m k ++ above m k →
        (if not (is_eq o) then q ∷ del m k else del m k) ≡ (if is_lt o then q ∷ below m k else below m k) ++ (if is_gt o then q ∷ above m k else above m k)
    by Less is rec = ap (λ x. q ∷ x) rec
    by Equal is rec = rec
    by Greater is rec =
        let none : below m k ≡ [] = none_below m k (greater q m k is t.1) in
        rw none (ap (λ x. q ∷ x) (rec ∙ ap (λ x. x ++ above m k) none))

-- Without the pair at a key's place the map is the one without the key.
pub removed_is : (p : ℕ) (m : StoreMap) (k : List ℕ) (at : ℕ) → IsStoreMap p m → IsAt m k at → remove m at ≡ del m k
removed_is p m k at t h = let s : at + 1 ≡ suc at = omega arith in sym (del_parts p m k t ∙ rw (h.less, h.greater, s) refl)

-- what a map has at a key has the key
key_of_found : (m : StoreMap) (k : List ℕ) (x : Pair) → get m k ≡ x ∷ [] → x.0 ≡ k
key_of_found [] k x e = cc
key_of_found (q ∷ m) k x e = by (bytes_cmp q.0 k) refl e (key_of_found m k x)
  where
    by : (o : Ordering) → bytes_cmp q.0 k ≡ o → filter (λ y. is_eq (bytes_cmp y.0 k)) (q ∷ m) ≡ x ∷ [] → (get m k ≡ x ∷ [] → x.0 ≡ k) → x.0 ≡ k
    by Less is e rec = rec (rw is at e)
    by Equal is e rec = let first : q ∷ get m k ≡ x ∷ [] = rw is at e in let same : q ≡ x = cc in sym (ap (λ (y : Pair). y.0) same) ∙ same_bytes q.0 k is
    by Greater is e rec = rec (rw is at e)

-- The object at a key's place is what the map has at the key.
pub is_found : (m : StoreMap) (k : List ℕ) (at : ℕ) → IsAt m k at → IsFound m k (Some (get_or m at nothing).1)
is_found m k at h = h.equal ∙ ap (λ (n : List ℕ). (n, (get_or m at nothing).1) ∷ []) (key_of_found m k (get_or m at nothing) h.equal)
