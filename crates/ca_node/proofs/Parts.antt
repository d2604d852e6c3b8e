-- Parts of a store map: what is in them, what edits and answers come to there, and how a key cuts
-- one in two.
use Rattle.std.proofs.Common.{◌≡◌, ◌≢◌, ℕ, zero, suc, Bool, true, false, List, [], ◌∷◌, ◌++◌, if◌then◌else◌, refl, sym, ap, subst, ◌∙◌}
use Rattle.std.proofs.lemmas.List.Elements.{filter-append}
use Rattle.std.specs.Prelude.{Option, Some, None, filter, not, cond}
use Rattle.std.specs.declared.cmp.Ordering.{Ordering}
use Rattle.std.specs.declared.cmp.Ordering.TheVariants.{Less, Equal, Greater}
use Rattle.std.specs.Ordering.{is_lt, is_eq, is_gt, ordering_reverse}
use mathlib.Core.Option.{some, some-injective, some-ne-none}
use lib.ListN.{get_elem?}
use Rattle.ca_term.proofs.Bytes.{same_bytes, bytes_itself}
use Rattle.ca_model.specs.StoreMap.{Pair, StoreMap, bytes_cmp, get, below, above, put, del, IsFound, AreAbove, IsStoreMap}
use Rattle.ca_model.specs.History.{Edit, Put, Del, after_edit}
use Rattle.ca_model.specs.Event.{Event, Get, Write, WriteNew, Remove, Change, Above, Below, Range, IsAnswer, effect}
use Rattle.ca_model.specs.Edges.{Bound, Unbounded, Included, Excluded, is_from, is_up_to, from, up_to}
use Rattle.ca_model.proofs.Edits.{map_filter}
use Rattle.ca_model.proofs.Places.{bytes_flip, bytes_chain, AreGreater, greater, greater_than, none_below}
use Rattle.ca_model.proofs.Walking.{all_pairs}
use Rattle.ca_node.specs.Place.{Span, all_keys, left_of, right_of, has_key, HasKey, part, edit_key, IsAbout}

-- Two filters may be taken in either order.
pub filter_swap : (f g : Pair → Bool) (m : StoreMap) → filter f (filter g m) ≡ filter g (filter f m)
filter_swap f g [] = refl
filter_swap f g (q ∷ m) = by (f q) (g q) refl refl (filter_swap f g m)
  where
    by : (b c : Bool) → f q ≡ b → g q ≡ c → filter f (filter g m) ≡ filter g (filter f m)
        → filter f (if c then q ∷ filter g m else filter g m)
        ≡ filter g (if b then q ∷ filter f m else filter f m)
    by true true e d rec = rw (e, d) (ap (λ x. q ∷ x) rec)
    by true false e d rec = rw d rec
    by false true e d rec = rw e rec
    by false false e d rec = rec

-- A filter behind one that passes all that it passes is as good as alone.
pub filter_through : (f g : Pair → Bool) → ((q : Pair) → g q ≡ true → f q ≡ true) → (m : StoreMap)
    → filter g (filter f m) ≡ filter g m
filter_through f g h [] = refl
filter_through f g h (q ∷ m) = by (f q) (g q) refl refl (filter_through f g h m)
  where
    by : (b c : Bool) → f q ≡ b → g q ≡ c → filter g (filter f m) ≡ filter g m
        → filter g (if b then q ∷ filter f m else filter f m)
        ≡ (if c then q ∷ filter g m else filter g m)
    by true true e d rec = rw d (ap (λ x. q ∷ x) rec)
    by true false e d rec = rw d rec
    by false true e d rec = let yes : f q ≡ true = h q d in cc
    by false false e d rec = rec

-- Two filters that agree on what another one passes are alike behind it.
filter_alike : (f g h : Pair → Bool) → ((q : Pair) → f q ≡ true → g q ≡ h q) → (m : StoreMap)
    → filter g (filter f m) ≡ filter h (filter f m)
filter_alike f g h a [] = refl
filter_alike f g h a (q ∷ m) = by (f q) refl (filter_alike f g h a m)
  where
    by : (b : Bool) → f q ≡ b → filter g (filter f m) ≡ filter h (filter f m)
        → filter g (if b then q ∷ filter f m else filter f m)
        ≡ filter h (if b then q ∷ filter f m else filter f m)
    by true e rec = rw (a q e) (ap (λ x. if h q then q ∷ x else x) rec)
    by false e rec = rec

-- What a filter leaves passes it.
filter_passed : (f : Pair → Bool) (m : StoreMap) (i : ℕ) (q : Pair)
    → get_elem? (filter f m) i ≡ some q → f q ≡ true
filter_passed f [] i q e = absurd (some-ne-none q (sym e))
filter_passed f (x ∷ m) i q e = by (f x) refl i e (filter_passed f m)
  where
    by : (b : Bool) → f x ≡ b → (i : ℕ)
        → get_elem? (if b then x ∷ filter f m else filter f m) i ≡ some q
        → ((j : ℕ) (y : Pair) → get_elem? (filter f m) j ≡ some y → f y ≡ true) → f q ≡ true
    by true is zero e rec = subst (λ (y : Pair). f y ≡ true) (some-injective x q e) is
    by true is (suc i) e rec = rec i q e
    by false is i e rec = rec i q e

-- Of two tests that are asked to hold together, the first one holds where they do.
pub first_holds : (a b : Bool) → cond a b false ≡ true → a ≡ true
first_holds true b e = refl
first_holds false b e = cc

-- So does the second one.
pub second_holds : (a b : Bool) → cond a b false ≡ true → b ≡ true
second_holds true b e = e
second_holds false b e = cc

-- They hold together where each one holds.
pub both_hold : (a b : Bool) → a ≡ true → b ≡ true → cond a b false ≡ true
both_hold a b d e = rw d e

-- An ordering that is told to be less is.
pub is_less : (o : Ordering) → is_lt o ≡ true → o ≡ Less
is_less Less e = refl
is_less Equal e = cc
is_less Greater e = cc

-- One that is told to be equal is.
is_equal : (o : Ordering) → is_eq o ≡ true → o ≡ Equal
is_equal Less e = cc
is_equal Equal e = refl
is_equal Greater e = cc

-- One that is told to be greater is.
is_greater : (o : Ordering) → is_gt o ≡ true → o ≡ Greater
is_greater Less e = cc
is_greater Equal e = cc
is_greater Greater e = refl

-- A part is what one filter leaves: the pairs with a key of the part.
part_one : (s : Span) (m : StoreMap) → part s m ≡ filter (λ q. has_key s q.0) m
part_one s [] = refl
part_one s (q ∷ m) = by (is_from s.low q.0) (part_one s m)
  where
    by : (b : Bool) → part s m ≡ filter (λ q. has_key s q.0) m
        → up_to s.high (if b then q ∷ from s.low m else from s.low m)
        ≡ (if cond b (is_up_to s.high q.0) false then q ∷ filter (λ q. has_key s q.0) m
        else filter (λ q. has_key s q.0) m)
    by true rec = ap (λ x. if is_up_to s.high q.0 then q ∷ x else x) rec
    by false rec = rec

-- A filter may be taken before the part or behind it.
part_filter : (s : Span) (g : Pair → Bool) (m : StoreMap)
    → filter (λ q. has_key s q.0) (filter g m) ≡ filter g (part s m)
part_filter s g m = filter_swap (λ q. has_key s q.0) g m ∙ ap (filter g) (sym (part_one s m))

-- A part of a store map is a store map.
pub part_map : (p : ℕ) (s : Span) (m : StoreMap) → IsStoreMap p m → IsStoreMap p (part s m)
part_map p s m t = map_filter p (from s.low m)
    (λ q. is_up_to s.high q.0) (map_filter p m (λ q. is_from s.low q.0) t)

-- Each pair of a part has a key of the part.
pub in_part : (s : Span) (m : StoreMap) (i : ℕ) (q : Pair) → get_elem? (part s m) i ≡ some q
    → HasKey s q.0
in_part s m i q e = filter_passed
    (λ q. has_key s q.0) m i q (ap (λ x. get_elem? x i) (sym (part_one s m)) ∙ e)

-- What a map has at a key, its part has.
pub part_get : (s : Span) (m : StoreMap) (k : List ℕ) → HasKey s k → get (part s m) k ≡ get m k
part_get s m k h = ap (λ x. get x k) (part_one s m)
    ∙ filter_through (λ q. has_key s q.0) (λ q. is_eq (bytes_cmp q.0 k)) inside m
  where
    inside : (q : Pair) → is_eq (bytes_cmp q.0 k) ≡ true → HasKey s q.0
    inside q e = subst (HasKey s) (sym (same_bytes q.0 k (is_equal (bytes_cmp q.0 k) e))) h

-- An edit of a key of the part is one of the part.
pub part_edited : (p : ℕ) (s : Span) (e : Edit) (m : StoreMap) → IsStoreMap p m
    → HasKey s (edit_key e) → part s (after_edit e m) ≡ after_edit e (part s m)
part_edited p s (Put k o) m t h =
    part_one s (put m k o) ∙ filter-append (λ q. has_key s q.0) (below m k) ((k, o) ∷ above m k)
    ∙ rw (
      h,
      sym (part_filter s (λ q. is_lt (bytes_cmp q.0 k)) m),
      sym (part_filter s (λ q. is_gt (bytes_cmp q.0 k)) m),
    ) refl
part_edited p s (Del k) m t h = part_one s (del m k)
    ∙ part_filter s (λ q. not (is_eq (bytes_cmp q.0 k))) m

-- What is greater than a key is from it on.
all_from : (m : StoreMap) (k : List ℕ) → AreGreater m k → from (Included k) m ≡ m
all_from [] k g = refl
all_from (q ∷ m) k g = rw g.0 (ap (λ x. q ∷ x) (all_from m k g.1))

-- A map is what is below a key, and what is from it on.
two_parts : (p : ℕ) (m : StoreMap) (k : List ℕ) → IsStoreMap p m
    → m ≡ below m k ++ from (Included k) m
two_parts p [] k t = refl
two_parts p (q ∷ m) k t = by (bytes_cmp q.0 k) refl (two_parts p m k t.2)
  where
    far : AreGreater m k → q ∷ m ≡ below m k ++ q ∷ from (Included k) m
    far g = sym (rw (none_below m k g, all_from m k g) refl)

    by : (r : Ordering) → bytes_cmp q.0 k ≡ r → m ≡ below m k ++ from (Included k) m
        → q ∷ m ≡ (if is_lt r then q ∷ below m k else below m k) ++ (if not (is_lt r)
        then q ∷ from (Included k) m else from (Included k) m)
    by Less is rec = ap (λ x. q ∷ x) rec
    by Equal is rec = far (greater_than q m k is t.1)
    by Greater is rec = far (greater q m k is t.1)

-- An edit of another key leaves the part.
pub part_left : (p : ℕ) (s : Span) (e : Edit) (m : StoreMap) → IsStoreMap p m
    → has_key s (edit_key e) ≡ false → part s (after_edit e m) ≡ part s m
part_left p s (Put k o) m t h =
    part_one s (put m k o) ∙ filter-append (λ q. has_key s q.0) (below m k) ((k, o) ∷ above m k)
    ∙ rw (
      h,
      part_filter s (λ q. is_lt (bytes_cmp q.0 k)) m,
      part_filter s (λ q. is_gt (bytes_cmp q.0 k)) m,
    ) (ap (λ x. below (part s m) k ++ x) same)
    ∙ sym (two_parts p (part s m) k (part_map p s m t))
  where
    other : (q : Pair) → HasKey s q.0 → is_gt (bytes_cmp q.0 k) ≡ not (is_lt (bytes_cmp q.0 k))
    other q i = by (bytes_cmp q.0 k) refl
      where
        by : (r : Ordering) → bytes_cmp q.0 k ≡ r → is_gt r ≡ not (is_lt r)
        by Less is = refl
        by Equal is = let alike : q.0 ≡ k = same_bytes q.0 k is in
            let no : has_key s q.0 ≡ has_key s k = ap (has_key s) alike in cc
        by Greater is = refl

    same : above (part s m) k ≡ from (Included k) (part s m)
    same =
        ap (λ x. above x k) (part_one s m)
        ∙ filter_alike (λ q. has_key s q.0) (λ q. is_gt (bytes_cmp q.0 k))
        (λ q. not (is_lt (bytes_cmp q.0 k))) other m
        ∙ ap (from (Included k)) (sym (part_one s m))
part_left p s (Del k) m t h =
    part_one s (del m k) ∙ filter_through (λ q. not (is_eq (bytes_cmp q.0 k)))
    (λ q. has_key s q.0) other m ∙ sym (part_one s m)
  where
    other : (q : Pair) → HasKey s q.0 → not (is_eq (bytes_cmp q.0 k)) ≡ true
    other q i = by (bytes_cmp q.0 k) refl
      where
        by : (r : Ordering) → bytes_cmp q.0 k ≡ r → not (is_eq r) ≡ true
        by Less is = refl
        by Equal is = let alike : q.0 ≡ k = same_bytes q.0 k is in
            let no : has_key s q.0 ≡ has_key s k = ap (has_key s) alike in cc
        by Greater is = refl

-- What is less than a key that is within an upper edge is within it.
pub less_within : (hi : Bound) (x k : List ℕ) → bytes_cmp x k ≡ Less → is_up_to hi k ≡ true
    → is_up_to hi x ≡ true
less_within Unbounded x k less in_it = refl
less_within (Included h) x k less in_it = by (bytes_cmp k h) refl in_it
  where
    by : (r : Ordering) → bytes_cmp k h ≡ r → not (is_gt r) ≡ true → is_up_to (Included h) x ≡ true
    by Less is low = rw (bytes_chain x k h less is) refl
    by Equal is low = rw (subst (λ y. bytes_cmp x y ≡ Less) (same_bytes k h is) less) refl
    by Greater is low = cc
less_within (Excluded h) x k less in_it = rw (bytes_chain x k h less (is_less _ in_it)) refl

-- What is greater than something greater is greater.
greater_chain : (a b c : List ℕ) → bytes_cmp a b ≡ Greater → bytes_cmp b c ≡ Greater
    → bytes_cmp a c ≡ Greater
greater_chain a b c d e =
    bytes_flip a c
    ∙ ap ordering_reverse (bytes_chain c b a (bytes_flip c b
    ∙ ap ordering_reverse e) (bytes_flip b a ∙ ap ordering_reverse d))

-- What isn't less than a key that is within a lower edge is within it.
pub greater_within : (lo : Bound) (x k : List ℕ) → not (is_lt (bytes_cmp x k)) ≡ true
    → is_from lo k ≡ true → is_from lo x ≡ true
greater_within lo x k far in_it = by (bytes_cmp x k) refl far
  where
    beyond : (lo : Bound) → bytes_cmp x k ≡ Greater → is_from lo k ≡ true → is_from lo x ≡ true
    beyond Unbounded more in_it = refl
    beyond (Included l) more in_it = from_it (bytes_cmp k l) refl in_it
      where
        from_it : (r : Ordering) → bytes_cmp k l ≡ r → not (is_lt r) ≡ true
            → is_from (Included l) x ≡ true
        from_it Less is low = cc
        from_it Equal is low = rw (subst
            (λ y. bytes_cmp x y ≡ Greater) (same_bytes k l is) more) refl
        from_it Greater is low = rw (greater_chain x k l more is) refl
    beyond (Excluded l) more in_it = rw (greater_chain x k l more (is_greater _ in_it)) refl

    by : (r : Ordering) → bytes_cmp x k ≡ r → not (is_lt r) ≡ true → is_from lo x ≡ true
    by Less is far = cc
    by Equal is far = subst (λ y. is_from lo y ≡ true) (sym (same_bytes x k is)) in_it
    by Greater is far = beyond lo is in_it

-- What is left of a key of a part is what is below the key in the part.
left_below : (s : Span) (m : StoreMap) (k : List ℕ) → HasKey s k
    → part (left_of k s) m ≡ below (part s m) k
left_below s m k h = sym (filter_through (λ q. is_up_to s.high q.0)
    (λ q. is_lt (bytes_cmp q.0 k)) inside (from s.low m))
  where
    inside : (q : Pair) → is_lt (bytes_cmp q.0 k) ≡ true → is_up_to s.high q.0 ≡ true
    inside q e = less_within s.high q.0 k (is_less _ e) (second_holds (is_from s.low k) _ h)

-- What is right of it is what is from the key on in the part.
right_from : (s : Span) (m : StoreMap) (k : List ℕ) → HasKey s k
    → part (right_of k s) m ≡ from (Included k) (part s m)
right_from s m k h =
    sym (filter_swap (λ q. not (is_lt (bytes_cmp q.0 k))) (λ q. is_up_to s.high q.0) (from s.low m)
    ∙ ap (up_to s.high) (filter_through (λ q. is_from s.low q.0)
    (λ q. not (is_lt (bytes_cmp q.0 k))) inside m))
  where
    inside : (q : Pair) → not (is_lt (bytes_cmp q.0 k)) ≡ true → is_from s.low q.0 ≡ true
    inside q e = greater_within s.low q.0 k e (first_holds (is_from s.low k) _ h)

-- Both sides of a key of a part are the part.
pub part_sides : (p : ℕ) (s : Span) (m : StoreMap) (k : List ℕ) → IsStoreMap p m → HasKey s k
    → part s m ≡ part (left_of k s) m ++ part (right_of k s) m
part_sides p s m k t h = two_parts p (part s m) k (part_map p s m t)
    ∙ rw (left_below s m k h, right_from s m k h) refl

-- A key that is less than all of these is less than one in their midst.
before_it : (xs : StoreMap) (j k o : List ℕ) (ys : StoreMap) → AreAbove j (xs ++ (k, o) ∷ ys)
    → bytes_cmp j k ≡ Less
before_it [] j k o ys a = a.0
before_it (x ∷ xs) j k o ys a = before_it xs j k o ys a.1

-- In a map that is cut at one of its pairs, what is below the pair's key is what is before the
-- pair.
cut_below : (p : ℕ) (xs ys : StoreMap) (k o : List ℕ) → IsStoreMap p (xs ++ (k, o) ∷ ys)
    → below (xs ++ (k, o) ∷ ys) k ≡ xs
cut_below p [] ys k o t =
    rw (bytes_itself k) (none_below ys k (greater_than (k, o) ys k (bytes_itself k) t.1))
cut_below p (x ∷ xs) ys k o t =
    rw (before_it xs x.0 k o ys t.1) (ap (λ y. x ∷ y) (cut_below p xs ys k o t.2))

-- What is from the pair's key on is the pair and what is behind it.
cut_from : (p : ℕ) (xs ys : StoreMap) (k o : List ℕ) → IsStoreMap p (xs ++ (k, o) ∷ ys)
    → from (Included k) (xs ++ (k, o) ∷ ys) ≡ (k, o) ∷ ys
cut_from p [] ys k o t =
    rw (bytes_itself k) (ap
    (λ y. (k, o) ∷ y) (all_from ys k (greater_than (k, o) ys k (bytes_itself k) t.1)))
cut_from p (x ∷ xs) ys k o t = rw (before_it xs x.0 k o ys t.1) (cut_from p xs ys k o t.2)

-- The pair at its place in the list.
there : (xs ys : StoreMap) (q : Pair) → (i : ℕ) × (get_elem? (xs ++ q ∷ ys) i ≡ some q)
there [] ys q = (zero, refl)
there (x ∷ xs) ys q = let i = there xs ys q in (suc i.0, i.1)

-- A part that is cut at one of its pairs: what is before the pair goes left, and the pair and what
-- is behind it go right.
pub part_cut : (p : ℕ) (s : Span) (m xs ys : StoreMap) (k o : List ℕ) → IsStoreMap p m
    → part s m ≡ xs ++ (k, o) ∷ ys
    → (part (left_of k s) m ≡ xs) × (part (right_of k s) m ≡ (k, o) ∷ ys)
part_cut p s m xs ys k o t e =
    let i = there xs ys (k, o) in
    let h : HasKey s k = in_part s m i.0 (k, o) (ap (λ x. get_elem? x i.0) e ∙ i.1) in
    let whole : IsStoreMap p (xs ++ (k, o) ∷ ys) = subst
    (λ (x : StoreMap). IsStoreMap p x) e (part_map p s m t) in (
      left_below s m k h ∙ ap (λ x. below x k) e ∙ cut_below p xs ys k o whole,
      right_from s m k h
          ∙ ap (from (Included k)) e ∙ cut_from p xs ys k o whole,
    )

-- What is from a key on and less than another key shows that this one is greater.
from_less : (lo x k : List ℕ) → not (is_lt (bytes_cmp x lo)) ≡ true → bytes_cmp x k ≡ Less
    → bytes_cmp lo k ≡ Less
from_less lo x k low less = by (bytes_cmp x lo) refl low
  where
    by : (r : Ordering) → bytes_cmp x lo ≡ r → not (is_lt r) ≡ true → bytes_cmp lo k ≡ Less
    by Less is low = cc
    by Equal is low = subst (λ y. bytes_cmp y k ≡ Less) (same_bytes x lo is) less
    by Greater is low =
        bytes_chain lo x k (bytes_flip lo x ∙ ap ordering_reverse is) less

-- A key of a part before which the part has a pair is greater than the key that the part begins with.
pub part_rises : (p : ℕ) (s : Span) (m xs ys : StoreMap) (q : Pair) (lo k o : List ℕ)
    → IsStoreMap p m → part s m ≡ (q ∷ xs) ++ (k, o) ∷ ys → s.low ≡ Included lo
    → bytes_cmp lo k ≡ Less
part_rises p s m xs ys q lo k o t e low =
    let whole : IsStoreMap p ((q ∷ xs) ++ (k, o) ∷ ys) = subst
    (λ (x : StoreMap). IsStoreMap p x) e (part_map p s m t) in
    let inside : HasKey s q.0 = in_part s m 0 q (ap (λ x. get_elem? x 0) e) in
    let from_low : is_from (Included lo) q.0 ≡ true = subst
    (λ (b : Bound). is_from b q.0 ≡ true) low (first_holds (is_from s.low q.0) _ inside) in
    from_less lo q.0 k from_low (before_it xs q.0 k o ys whole.1)

-- A key of a part that is less than a key is one of what is left of that.
pub goes_left : (k x : List ℕ) (s : Span) → HasKey s x → bytes_cmp x k ≡ Less
    → HasKey (left_of k s) x
goes_left k x s h less =
    both_hold (is_from s.low x) (is_lt (bytes_cmp x k)) (first_holds (is_from s.low x) _ h)
    (ap is_lt less)

-- Another one is one of what is right of it.
pub goes_right : (k x : List ℕ) (s : Span) → HasKey s x → bytes_cmp x k ≢ Less
    → HasKey (right_of k s) x
goes_right k x s h far =
    both_hold (not (is_lt (bytes_cmp x k))) (is_up_to s.high x) (by (bytes_cmp x k) far)
    (second_holds (is_from s.low x) _ h)
  where
    by : (r : Ordering) → r ≢ Less → not (is_lt r) ≡ true
    by Less n = absurd (n refl)
    by Equal n = refl
    by Greater n = refl

-- No key is on both sides of a key.
pub two_sides : (k x : List ℕ) (s : Span) → HasKey (left_of k s) x → HasKey (right_of k s) x → ⊥
two_sides k x s l r =
    by (bytes_cmp x k) (second_holds (is_from s.low x) _ l)
    (first_holds (not (is_lt (bytes_cmp x k))) _ r)
  where
    by : (r : Ordering) → is_lt r ≡ true → not (is_lt r) ≡ true → ⊥
    by Less e d = cc
    by Equal e d = cc
    by Greater e d = cc

-- What is left of a key of a part is of the part.
pub left_is_in : (k x : List ℕ) (s : Span) → HasKey s k → HasKey (left_of k s) x → HasKey s x
left_is_in k x s h l =
    both_hold (is_from s.low x) (is_up_to s.high x) (first_holds (is_from s.low x) _ l)
    (less_within s.high x k (is_less _ (second_holds (is_from s.low x) _ l))
    (second_holds (is_from s.low k) _ h))

-- So is what is right of it.
pub right_is_in : (k x : List ℕ) (s : Span) → HasKey s k → HasKey (right_of k s) x → HasKey s x
right_is_in k x s h r =
    both_hold (is_from s.low x) (is_up_to s.high x)
    (greater_within s.low x k (first_holds (not (is_lt (bytes_cmp x k))) _ r)
    (first_holds (is_from s.low k) _ h))
    (second_holds (not (is_lt (bytes_cmp x k))) _ r)

-- Each key is one of all keys.
pub of_all : (x : List ℕ) → HasKey all_keys x
of_all x = refl

-- A map is its part of all keys.
pub part_all : (m : StoreMap) → part all_keys m ≡ m
part_all m = all_pairs (filter (λ (p : Pair). true) m) ∙ all_pairs m

-- What is found at a key is found in another map that has the same there.
same_found : (m n : StoreMap) (k : List ℕ) (found : Option (List ℕ)) → get n k ≡ get m k
    → IsFound m k found → IsFound n k found
same_found m n k None e is = e ∙ is
same_found m n k (Some o) e is = e ∙ is

-- A call about a key has the same answer on another map that has the same there.
same_answer : (m n : StoreMap) (k : List ℕ) (event : Event) → get n k ≡ get m k → IsAbout k event
    → IsAnswer event m → IsAnswer event n
same_answer m n k (Get j found) e is a =
    same_found m n j found (subst (λ x. get n x ≡ get m x) (sym is) e) a
same_answer m n k (Write j o) e is a = tt
same_answer m n k (WriteNew j o true) e is a = subst (λ x. get n x ≡ get m x) (sym is) e ∙ a
same_answer m n k (WriteNew j o false) e is a =
    λ none. a (sym (subst (λ x. get n x ≡ get m x) (sym is) e) ∙ none)
same_answer m n k (Remove j found) e is a =
    same_found m n j found (subst (λ x. get n x ≡ get m x) (sym is) e) a
same_answer m n k (Change j found new) e is a =
    same_found m n j found (subst (λ x. get n x ≡ get m x) (sym is) e) a
same_answer m n k (Above lo found) e is a = absurd is
same_answer m n k (Below hi found) e is a = absurd is
same_answer m n k (Range lo hi cut objects) e is a = absurd is

-- A call about a key of a part has on the map the answer that it has on the part.
pub answer_whole : (s : Span) (m : StoreMap) (k : List ℕ) (event : Event) → HasKey s k
    → IsAbout k event → IsAnswer event (part s m) → IsAnswer event m
answer_whole s m k event h is a = same_answer (part s m) m k event (sym (part_get s m k h)) is a

-- Lists of one edit each are the same only where the edits are.
only : (d e : Edit) → d ∷ [] ≡ e ∷ [] → d ≡ e
only d e is = cc

-- A call that makes one edit is about the edit's key.
pub about_edit : (event : Event) (e : Edit) → effect event ≡ e ∷ [] → IsAbout (edit_key e) event
about_edit (Get k found) e is = cc
about_edit (Write k o) e is = ap edit_key (only (Put k o) e is)
about_edit (WriteNew k o true) e is = ap edit_key (only (Put k o) e is)
about_edit (WriteNew k o false) e is = cc
about_edit (Remove k None) e is = cc
about_edit (Remove k (Some o)) e is = ap edit_key (only (Del k) e is)
about_edit (Change k None new) e is = cc
about_edit (Change k (Some o) None) e is = cc
about_edit (Change k (Some o) (Some new)) e is = ap edit_key (only (Put k new) e is)
about_edit (Above lo found) e is = cc
about_edit (Below hi found) e is = cc
about_edit (Range lo hi cut objects) e is = cc
