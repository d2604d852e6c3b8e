-- A list of pairs kept in slots: what a row that is written, and a number that is moved, do to it.
use Rattle.std.proofs.Common.{◌≡◌, ℕ, zero, suc, ◌≤◌, ◌<◌, ◌+◌, ◌-◌, ◌≢◌, ◌⊎◌, inl, inr, cond, List, [], ◌∷◌, ◌++◌, length, map, take, drop, set, get_or, arith, refl, sym, ◌∙◌, ap, subst, Result, Ok, Err, length-append, append_assoc}
use Rattle.std.specs.Prelude.{nat_eq}
use Rattle.std.specs.List.{insert, remove}
use Rattle.std.specs.List.Sorted.{IsBinarySearchResult, IsSearchInRange}
use Rattle.std.specs.Ordering.{ordering_index}
use Rattle.std.proofs.lemmas.Bool.{cases_lt, cases_eq}
use Rattle.std.proofs.lemmas.Bool.Decides.{nat_tests}
use Rattle.std.proofs.lemmas.List.{map-append, take-map, drop-map, get_or-map, get_or-set_same, get_or-set_other, get_or-take, length-map, length-set, length-drop, length-take-le, take-append-drop, take-append-le, take_at, drop_more, get_or_read}
use Rattle.std.proofs.lemmas.List.Edits.{length-insert, length-remove}
use Rattle.std.proofs.lemmas.List.Sums.{sum_by-cons, sum_by-append, sum_by-insert, sum_by-remove, sum_by-take-le}
use Rattle.ca_model.specs.StoreMap.{Pair, bytes_cmp}
use Rattle.ca_model.specs.Slab.{PairList, nothing, with_moved, with_freed}
use Rattle.ca_model.specs.SlabView.{pairs_in, times, list_in, AreSlots}

abbrev is : ℕ → ℕ → ℕ
is slot m = cond (nat_eq m slot) 1 0

times_more : (slot m : ℕ) (ms : List ℕ) → times slot (m ∷ ms) ≡ is slot m + times slot ms
times_more slot m ms = sum_by-cons (is slot) m ms

is_self : (slot : ℕ) → is slot slot ≡ 1
is_self slot = grind (arith, nat_tests)

is_other : (slot m : ℕ) → is slot m ≡ 0 → m ≢ slot
is_other slot m h same = by (subst (λ (k : ℕ). is slot k ≡ 0) same h)
  where
    by : is slot slot ≡ 0 → ⊥
    by none = absurd (omega (arith, none, is_self slot))

-- Where a slot isn't among these, they keep their pairs when it is written.
pub others_stay : (rows : List Pair) (slot : ℕ) (p : Pair) (ms : List ℕ) → times slot ms ≡ 0 → pairs_in (set rows slot p) ms ≡ pairs_in rows ms
others_stay rows slot p [] h = refl
others_stay rows slot p (m ∷ ms) h =
    let sum = times_more slot m ms in
    let one = get_or-set_other rows slot m p nothing (is_other slot m (omega (arith, sum, h))) in
    let rest = others_stay rows slot p ms (omega (arith, sum, h)) in
    rw (one, rest) refl

stands : (ms : List ℕ) (at : ℕ) → at < length ms → 1 ≤ times (get_or ms at 0) ms
stands [] at h = absurd (omega arith)
stands (m ∷ ms) zero h = omega (arith, times_more m m ms, is_self m)
stands (m ∷ ms) (suc at) h = omega (arith, times_more (get_or ms at 0) m ms, stands ms at (omega arith))

-- Where a slot stands at one place alone, its pair is replaced there when it is written.
pub row_set : (rows : List Pair) (p : Pair) (ms : List ℕ) (at : ℕ) → at < length ms → get_or ms at 0 < length rows → times (get_or ms at 0) ms ≤ 1
    → pairs_in (set rows (get_or ms at 0) p) ms ≡ set (pairs_in rows ms) at p
row_set rows p [] at h r o = absurd (omega arith)
row_set rows p (m ∷ ms) zero h r o =
    let sum = times_more m m ms in
    let one = is_self m in
    rw (get_or-set_same rows m p nothing r, others_stay rows m p ms (omega (arith, sum, one, o))) refl
row_set rows p (m ∷ ms) (suc at) h r o =
    let slot = get_or ms at 0 in
    let sum = times_more slot m ms in
    let here = stands ms at (omega arith) in
    let one = get_or-set_other rows slot m p nothing (is_other slot m (omega (arith, sum, here, o))) in
    let rest = row_set rows p ms at (omega arith) r (omega (arith, sum, o)) in
    rw (one, rest) refl

map_insert : (f : ℕ → Pair) (ms : List ℕ) (at m : ℕ) → map f (insert ms at m) ≡ insert (map f ms) at (f m)
map_insert f ms at m = map-append f (take at ms) (m ∷ drop at ms) ∙ rw (take-map f at ms, drop-map f at ms) refl

map_remove : (f : ℕ → Pair) (ms : List ℕ) (at : ℕ) → map f (remove ms at) ≡ remove (map f ms) at
map_remove f ms at = map-append f (take at ms) (drop (suc at) ms) ∙ rw (take-map f at ms, drop-map f (suc at) ms) refl

-- A free slot is written, and its number moved into place.
pub row_inserted : (rows : List Pair) (p : Pair) (ms rest : List ℕ) (slot at : ℕ) → at ≤ length ms → slot < length rows → times slot (ms ++ slot ∷ rest) ≤ 1
    → pairs_in (set rows slot p) (insert ms at slot) ≡ insert (pairs_in rows ms) at p
row_inserted rows p ms rest slot at h r o =
    let f : ℕ → Pair = λ m. get_or (set rows slot p) m nothing in
    let sum = sum_by-append (is slot) ms (slot ∷ rest) in
    let more = times_more slot slot rest in
    let self = is_self slot in
    let none : times slot ms ≡ 0 = omega (arith, o, sum, more, self) in
    map_insert f ms at slot ∙ rw (others_stay rows slot p ms none, get_or-set_same rows slot p nothing r) refl

-- A number that is moved from behind some into their midst stands in the list as often as before.
pub times_inserted : (n : ℕ) (ms rest : List ℕ) (slot at : ℕ) → times n (insert ms at slot ++ rest) ≡ times n (ms ++ slot ∷ rest)
times_inserted n ms rest slot at =
    let whole = sum_by-append (is n) (insert ms at slot) rest in
    let inside = sum_by-insert (is n) ms at slot in
    let before = sum_by-append (is n) ms (slot ∷ rest) in
    let more = times_more n slot rest in
    omega (arith, whole, inside, before, more)

-- A number that is moved behind the others stands in the list as often as before.
pub times_removed : (n : ℕ) (ms rest : List ℕ) (at : ℕ) → at < length ms → times n ((remove ms at ++ get_or ms at 0 ∷ []) ++ rest) ≡ times n (ms ++ rest)
times_removed n ms rest at h =
    let whole = sum_by-append (is n) (remove ms at ++ get_or ms at 0 ∷ []) rest in
    let inside = sum_by-append (is n) (remove ms at) (get_or ms at 0 ∷ []) in
    let one = times_more n (get_or ms at 0) [] in
    let less = sum_by-remove (is n) ms at 0 h in
    let before = sum_by-append (is n) ms rest in
    omega (arith, whole, inside, one, less, before)

-- a row that holds nothing changes no pair
blank_row : (rows : List Pair) (m : ℕ) → get_or (rows ++ nothing ∷ []) m nothing ≡ get_or rows m nothing
blank_row [] zero = refl
blank_row [] (suc m) = refl
blank_row (r ∷ rows) zero = refl
blank_row (r ∷ rows) (suc m) = blank_row rows m

pub blank_added : (rows : List Pair) (ms : List ℕ) → pairs_in (rows ++ nothing ∷ []) ms ≡ pairs_in rows ms
blank_added rows [] = refl
blank_added rows (m ∷ ms) = rw (blank_row rows m, blank_added rows ms) refl

-- A number of the order is that of a row.
pub is_row : (rows : List Pair) (order : List ℕ) (len i : ℕ) → AreSlots rows order len → i < length order → get_or order i 0 < length rows
is_row rows order len i h l = by (cases_lt (get_or order i 0) (length rows))
  where
    by : (get_or order i 0 < length rows) ⊎ (length rows ≤ get_or order i 0) → get_or order i 0 < length rows
    by (inl near) = near
    by (inr far) = absurd (omega (arith, stands order i l, h.slots (get_or order i 0) far))

-- The list has as many pairs as `len` says.
pub length_in : (rows : List Pair) (order : List ℕ) (len : ℕ) → AreSlots rows order len → length (list_in rows order len).pairs ≡ len
length_in rows order len h = length-map (take len order) (λ m. get_or rows m nothing) ∙ length-take-le len order h.within

-- The pair at a place of the list is the one in the slot that the order has there.
pub pair_at : (rows : List Pair) (order : List ℕ) (len at : ℕ) → AreSlots rows order len → at < len
    → get_or (list_in rows order len).pairs at nothing ≡ get_or rows (get_or order at 0) nothing
pair_at rows order len at h l =
    let short = length-take-le len order h.within in
    get_or-map (λ m. get_or rows m nothing) (take len order) at 0 nothing (omega (arith, short))
    ∙ ap (λ (m : ℕ). get_or rows m nothing) (get_or-take len order at 0 l)

-- A pair is replaced.
pub slots_set : (rows new : List Pair) (order : List ℕ) (len slot : ℕ) (p : Pair) → AreSlots rows order len → new ≡ set rows slot p → AreSlots new order len
slots_set rows new order len slot p h e = record {
  within = h.within;
  once = h.once;
  slots = λ m far. h.slots m (omega (arith, far, ap (λ (r : List Pair). length r) e, length-set rows slot p));
}

pub list_set : (rows new : List Pair) (order : List ℕ) (len at : ℕ) (p : Pair) → AreSlots rows order len → at < len → new ≡ set rows (get_or order at 0) p
    → (list_in new order len).pairs ≡ set (list_in rows order len).pairs at p
list_set rows new order len at p h l e =
    let ms = take len order in
    let short = length-take-le len order h.within in
    let here : get_or ms at 0 ≡ get_or order at 0 = get_or-take len order at 0 l in
    let row : get_or ms at 0 < length rows = omega (arith, here, is_row rows order len at h (omega (arith, h.within, l))) in
    let once : times (get_or ms at 0) ms ≤ 1 = omega (arith, sum_by-take-le (is (get_or ms at 0)) order len, h.once (get_or ms at 0)) in
    ap (λ (r : List Pair). pairs_in r ms) (e ∙ ap (λ (m : ℕ). set rows m p) (sym here)) ∙ row_set rows p ms at (omega (arith, short, l)) row once

-- an order is its first numbers, one number, and the rest
order_parts : (order : List ℕ) (len : ℕ) → len < length order → take len order ++ get_or order len 0 ∷ drop (len + 1) order ≡ order
order_parts order len l = ap (λ (ms : List ℕ). take len order ++ ms) (sym (drop_more order len 0 l)) ∙ take-append-drop len order

-- The order stays as long as it is.
pub length_moved : (order : List ℕ) (len at : ℕ) → at ≤ len → len < length order → length (with_moved order len at) ≡ length order
length_moved order len at a l =
    let short = length-take-le len order (omega (arith, l)) in
    let outer = length-append (insert (take len order) at (get_or order len 0)) (drop (len + 1) order) in
    let inner = length-insert (take len order) at (get_or order len 0) (omega (arith, short, a)) in
    let behind = length-drop (len + 1) order in
    omega (arith, outer, inner, behind, short, l)

pub length_freed : (order : List ℕ) (len at : ℕ) → at < len → len ≤ length order → length (with_freed order len at) ≡ length order
length_freed order len at a l =
    let ms = take len order in
    let short = length-take-le len order l in
    let outer = length-append (remove ms at ++ get_or ms at 0 ∷ []) (drop len order) in
    let inner = length-append (remove ms at) (get_or ms at 0 ∷ []) in
    let less = length-remove ms at (omega (arith, short, a)) in
    let behind = length-drop len order in
    omega (arith, outer, inner, less, short, behind, l)

-- A pair is put between two.
pub slots_inserted : (rows new : List Pair) (order other : List ℕ) (len at : ℕ) (p : Pair) → AreSlots rows order len → len < length order → at ≤ len
    → new ≡ set rows (get_or order len 0) p → other ≡ with_moved order len at → AreSlots new other (len + 1)
slots_inserted rows new order other len at p h l a e f =
    let slot = get_or order len 0 in
    let parts = order_parts order len l in
    let short = length-take-le len order h.within in
    let same : (m : ℕ) → times m other ≡ times m order = λ m. ap (times m) f ∙ times_inserted m (take len order) (drop (len + 1) order) slot at
    ∙ ap (times m) parts in
    let long : length other ≡ length order = ap (λ (ms : List ℕ). length ms) f ∙ length_moved order len at a l in
    record {
      within = omega (arith, long, l);
      once = λ m. omega (arith, same m, h.once m);
      slots = λ m far. same m ∙ h.slots m (omega (arith, far, ap (λ (r : List Pair). length r) e, length-set rows slot p));
    }

pub list_inserted : (rows new : List Pair) (order other : List ℕ) (len at : ℕ) (p : Pair) → AreSlots rows order len → len < length order → at ≤ len
    → new ≡ set rows (get_or order len 0) p → other ≡ with_moved order len at → (list_in new other (len + 1)).pairs ≡ insert (list_in rows order len).pairs at p
list_inserted rows new order other len at p h l a e f =
    let ms = take len order in
    let slot = get_or order len 0 in
    let rest = drop (len + 1) order in
    let short : length ms ≡ len = length-take-le len order h.within in
    let front : take (len + 1) (insert ms at slot ++ rest) ≡ insert ms at slot = take_at (insert ms at slot) rest (len + 1)
    (length-insert ms at slot (omega (arith, short, a)) ∙ ap (λ (n : ℕ). n + 1) short) in
    let once : times slot (ms ++ slot ∷ rest) ≤ 1 = omega (arith, ap (times slot) (order_parts order len l), h.once slot) in
    ap (λ (o : List ℕ). pairs_in new (take (len + 1) o)) f ∙ ap (pairs_in new) front ∙ ap (λ (r : List Pair). pairs_in r (insert ms at slot)) e
    ∙ row_inserted rows p ms rest slot at (omega (arith, short, a)) (is_row rows order len len h l) once

-- A pair is taken out.
pub slots_removed : (rows : List Pair) (order other : List ℕ) (len at : ℕ) → AreSlots rows order len → at < len → other ≡ with_freed order len at
    → AreSlots rows other (len - 1)
slots_removed rows order other len at h a f =
    let ms = take len order in
    let short : length ms ≡ len = length-take-le len order h.within in
    let same : (m : ℕ) → times m other ≡ times m order = λ m. ap (times m) f ∙ times_removed m ms (drop len order) at (omega (arith, short, a))
    ∙ ap (times m) (take-append-drop len order) in
    let long : length other ≡ length order = ap (λ (ns : List ℕ). length ns) f ∙ length_freed order len at a h.within in
    record {
      within = omega (arith, long, h.within);
      once = λ m. omega (arith, same m, h.once m);
      slots = λ m far. same m ∙ h.slots m far;
    }

pub list_removed : (rows : List Pair) (order other : List ℕ) (len at : ℕ) → AreSlots rows order len → at < len → other ≡ with_freed order len at
    → (list_in rows other (len - 1)).pairs ≡ remove (list_in rows order len).pairs at
list_removed rows order other len at h a f =
    let ms = take len order in
    let last = get_or ms at 0 in
    let short : length ms ≡ len = length-take-le len order h.within in
    let less = length-remove ms at (omega (arith, short, a)) in
    let front : take (len - 1) (remove ms at ++ last ∷ [] ++ drop len order) ≡ remove ms at =
    ap (λ (ns : List ℕ). take (len - 1) ns) (append_assoc (remove ms at) (last ∷ []) (drop len order))
    ∙ take_at (remove ms at) (last ∷ drop len order) (len - 1) (omega (arith, less, short)) in
    ap (λ (o : List ℕ). pairs_in rows (take (len - 1) o)) f ∙ ap (pairs_in rows) front ∙ map_remove (λ m. get_or rows m nothing) ms at

-- A blank row is added, and its number as the last free one.
pub slots_added : (rows new : List Pair) (order other : List ℕ) (len : ℕ) → AreSlots rows order len → new ≡ rows ++ nothing ∷ []
    → other ≡ order ++ length rows ∷ [] → AreSlots new other len
slots_added rows new order other len h e f =
    let count : (m : ℕ) → times m other ≡ times m order + is m (length rows) =
    λ m. ap (times m) f ∙ sum_by-append (is m) order (length rows ∷ []) ∙ (let one = times_more m (length rows) [] in omega (arith, one)) in
    let long = ap (λ (ns : List ℕ). length ns) f in
    let longer = length-append order (length rows ∷ []) in
    let more = ap (λ (r : List Pair). length r) e in
    let rows_more = length-append rows (nothing ∷ []) in
    record {
      within = omega (arith, long, longer, h.within);
      once = λ m. at_most m (count m) (cases_eq m (length rows));
      slots = λ m far. count m ∙ (let none = h.slots m (omega (arith, far, more, rows_more)) in
          let other_number = is_not m (length rows) (omega (arith, far, more, rows_more)) in omega (arith, none, other_number));
    }
  where
    is_not : (m n : ℕ) → n < m → is m n ≡ 0
    is_not m n l = grind (arith, nat_tests, l)

    at_most : (m : ℕ) → times m other ≡ times m order + is m (length rows) → (m ≡ length rows) ⊎ (m ≡ length rows → ⊥) → times m other ≤ 1
    at_most m c (inl same) = omega (arith, c, h.slots m (omega (arith, same)), is_bit m (length rows))
      where
        is_bit : (m n : ℕ) → is m n ≤ 1
        is_bit m n = grind (arith, nat_tests)
    at_most m c (inr differs) = omega (arith, c, h.once m, is_differs m (length rows) differs)
      where
        is_differs : (m n : ℕ) → (m ≡ n → ⊥) → is m n ≡ 0
        is_differs m n d = grind (arith, nat_tests, d)

pub list_added : (rows new : List Pair) (order other : List ℕ) (len : ℕ) → AreSlots rows order len → new ≡ rows ++ nothing ∷ []
    → other ≡ order ++ length rows ∷ []
    → (list_in new other len).pairs ≡ (list_in rows order len).pairs
list_added rows new order other len h e f =
    ap (λ (o : List ℕ). pairs_in new (take len o)) (f) ∙ ap (pairs_in new) (take-append-le len order (length rows ∷ []) h.within)
    ∙ ap (λ (r : List Pair). pairs_in r (take len order)) e ∙ blank_added rows (take len order)

-- A search of the order by the keys in its slots is one of the list.
pub found_in : (rows : List Pair) (ms : List ℕ) (k : List ℕ) (r : Result ℕ ℕ) → IsSearchInRange r (length ms)
    → IsBinarySearchResult (λ m. bytes_cmp (get_or rows m nothing).0 k) ms r → IsBinarySearchResult (λ p. bytes_cmp p.0 k) (pairs_in rows ms) r
found_in rows ms k (Ok i) b s = λ d. ap (λ (p : Pair). bytes_cmp p.0 k) (get_or-map (λ m. get_or rows m nothing) ms i 0 d b) ∙ s 0
found_in rows ms k (Err i) b s = λ rises. let parts = s (λ a c d h l.
    let low = get_or-map (λ m. get_or rows m nothing) ms a d nothing (omega arith) in
    let high = get_or-map (λ m. get_or rows m nothing) ms c d nothing l in
    let more = length-map ms (λ m. get_or rows m nothing) in
    let at : ordering_index (bytes_cmp (get_or (pairs_in rows ms) a nothing).0 k) ≤ ordering_index (bytes_cmp (get_or (pairs_in rows ms) c nothing).0 k) =
    rises a c nothing h (omega (arith, more, l)) in
    subst (λ (p : Pair). ordering_index (bytes_cmp p.0 k) ≤ ordering_index (bytes_cmp (get_or rows (get_or ms c d) nothing).0 k)) low
    (subst (λ (p : Pair). ordering_index (bytes_cmp (get_or (pairs_in rows ms) a nothing).0 k) ≤ ordering_index (bytes_cmp p.0 k)) high at)) in (
      (λ j d l h. ap (λ (p : Pair). bytes_cmp p.0 k) (get_or-map (λ m. get_or rows m nothing) ms j 0 d (omega (arith, h, b))) ∙ parts.0 j 0 l h),
      (λ j d l h. let more = length-map ms (λ m. get_or rows m nothing) in
          ap (λ (p : Pair). bytes_cmp p.0 k) (get_or-map (λ m. get_or rows m nothing) ms j 0 d (omega (arith, h, more)))
          ∙ parts.1 j 0 l (omega (arith, h, more))),
    )

-- what is read of the order at a place of the list
pub record IsSlot (rows : List Pair) (order : List ℕ) (len : ℕ) (now : PairList) (at x : ℕ) : Type 0 where
  pub in_list : at < len
  pub is : x ≡ get_or order at 0
  pub row : x < length rows
  pub pair : get_or now.pairs at nothing ≡ get_or rows x nothing

pub slot_at : (rows : List Pair) (order : List ℕ) (len : ℕ) (now : PairList) (at x : ℕ) → AreSlots rows order len → list_in rows order len ≡ now
    → at < length now.pairs → x ≡ get_or order at x → IsSlot rows order len now at x
slot_at rows order len now at x h v l e =
    let many = ap (λ (p : PairList). length p.pairs) v in
    let inside : at < len = omega (arith, l, many, length_in rows order len h) in
    let x_is : x ≡ get_or order at 0 = get_or_read order at x (omega (arith, inside, h.within)) e 0 in
    record {
      in_list = inside;
      is = x_is;
      row = omega (arith, x_is, is_row rows order len at h (omega (arith, inside, h.within)));
      pair = ap (λ (p : PairList). get_or p.pairs at nothing) (sym v) ∙ pair_at rows order len at h inside ∙ ap (λ (m : ℕ). get_or rows m nothing) (sym x_is);
    }

-- what is read of the order behind the list: the first free slot
pub record IsFree (rows : List Pair) (order : List ℕ) (len : ℕ) (now : PairList) (at x : ℕ) : Type 0 where
  pub is : x ≡ get_or order len 0
  pub row : x < length rows
  pub more : len < length order
  pub place : at ≤ len

pub free_at : (rows : List Pair) (order : List ℕ) (len : ℕ) (now : PairList) (at x : ℕ) → AreSlots rows order len → list_in rows order len ≡ now
    → 1 ≤ now.spare → at ≤ length now.pairs → x ≡ get_or order len x → IsFree rows order len now at x
free_at rows order len now at x h v s l e =
    let many = ap (λ (p : PairList). length p.pairs) v in
    let room : length order - len ≡ now.spare = ap (λ (p : PairList). p.spare) v in
    let more : len < length order = omega (arith, room, s) in
    let x_is : x ≡ get_or order len 0 = get_or_read order len x more e 0 in
    record {
      is = x_is;
      row = omega (arith, x_is, is_row rows order len len h more);
      more = more;
      place = omega (arith, l, many, length_in rows order len h);
    }

-- A vector's numbers after its whole slice was written over.
pub written_over : (order given whole : List ℕ) (n : ℕ) → given ≡ whole → length whole ≡ length order → n ≡ length order
    → take n (given ++ drop (length given) order) ≡ whole
written_over order given whole n e f g = take_at given (drop (length given) order) n (ap (λ (ms : List ℕ). length ms) e ∙ f ∙ sym g) ∙ e
