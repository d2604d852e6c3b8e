-- A greater key has a greater rank.
use Rattle.std.proofs.Common.{◌≡◌, ℕ, zero, suc, ◌+◌, ◌*◌, ◌<◌, ◌≤◌, true, List, [], ◌∷◌, ◌++◌, length, take, drop, Option, Some, None, sym, refl, ap, ◌∙◌, subst, arith, length-take}
use native.Mathlib.Nat.{mul-le-mul_right}
use Rattle.std.specs.declared.cmp.Ordering.{Ordering}
use Rattle.std.specs.declared.cmp.Ordering.TheVariants.{Less, Equal, Greater}
use Rattle.std.specs.Cmp.{ranked}
use Rattle.std.specs.Int.{to_be_bytes, w64}
use Rattle.std.specs.Ordering.{nat_cmp, ordering_then}
use Rattle.ca_model.specs.Edges.{Bound, Unbounded, Included, Excluded, is_from, is_up_to}
use Rattle.ca_model.specs.StoreMap.{bytes_cmp}
use Rattle.ca_base.specs.Putting.{first_note}
use Rattle.ca_node.specs.Layout.{key_word}
use Rattle.ca_node.specs.Place.{HasKey}
use Rattle.ca_node.specs.Row.{bytes_in, count, route_key}
use Rattle.ca_node.specs.TreeView.{TreeView}
use Rattle.ca_node.specs.Walking.{IsHighRoute}
use Rattle.ca_node.specs.declared.cursor.Cursor.{Cursor}
use Rattle.ca_node.proofs.Parts.{is_less, second_holds}
use Rattle.ca_term.proofs.DigitOrder.{AllBytes, high_bytes}
use Rattle.ca_rows.specs.declared.sizes.Sizes.{Sizes}
use Rattle.ca_range.specs.Ahead.{IsAtLast, IsBefore}
use Rattle.ca_range.specs.Farther.{rank, reach, reach_to, room}
use Rattle.ca_range.specs.declared.account.Range.{Range}

-- The next number has as much more.
times_more : (a b n : ℕ) → a < b → a * n + n ≤ b * n
times_more a b n less = let l : suc a * n ≤ b * n = mul-le-mul_right n less in omega arith

-- A list of so many bytes at most is one of them.
rank_within : (n : ℕ) (bs : List ℕ) → AllBytes bs → rank n bs < room n
unfolding rank room
rank_within zero bs each = omega arith
rank_within (suc n) [] each = omega arith
rank_within (suc n) (b ∷ bs) each = let rest = rank_within n bs each.1 in let more = times_more b 256 (room n) each.0 in omega arith

-- A list of them that is greater stands behind.
pub rank_rises : (n : ℕ) (a b : List ℕ) → length a ≤ n → length b ≤ n → AllBytes a → AllBytes b → bytes_cmp a b ≡ Less → rank n a < rank n b
unfolding rank
rank_rises n [] [] la lb xs ys e = cc
rank_rises n (x ∷ a) [] la lb xs ys e = cc
rank_rises zero a (y ∷ b) la lb xs ys e = absurd (omega arith)
rank_rises (suc n) [] (y ∷ b) la lb xs ys e = omega arith
rank_rises (suc n) (x ∷ a) (y ∷ b) la lb xs ys e = by (nat_cmp x y) refl e (rank_rises n a b (omega arith) (omega arith) xs.1 ys.1)
  where
    by : (o : Ordering) → o ≡ nat_cmp x y → ordering_then o (bytes_cmp a b) ≡ Less → (bytes_cmp a b ≡ Less → rank n a < rank n b)
        → 1 + x * room n + rank n a < 1 + y * room n + rank n b
    by Less is then rest = let more = times_more x y (room n) (ranked x y Less is) in let inside = rank_within n a xs.1 in omega arith
    by Equal is then rest = let less = rest then in
        subst (λ (k : ℕ). 1 + x * room n + rank n a < 1 + k * room n + rank n b) (ranked x y Equal is) (omega arith)
    by Greater is then rest = cc

-- The bytes of words are bytes, and so are the first of them.
both_bytes : (xs ys : List ℕ) → AllBytes xs → AllBytes ys → AllBytes (xs ++ ys)
both_bytes [] ys a b = b
both_bytes (x ∷ xs) ys a b = (a.0, both_bytes xs ys a.1 b)

words_bytes : (words : List ℕ) → AllBytes (bytes_in words)
words_bytes [] = tt
words_bytes (word ∷ words) = both_bytes (to_be_bytes w64 word) (bytes_in words) (high_bytes 8 word) (words_bytes words)

first_bytes : (n : ℕ) (xs : List ℕ) → AllBytes xs → AllBytes (take n xs)
first_bytes zero xs a = tt
first_bytes (suc n) [] a = tt
first_bytes (suc n) (x ∷ xs) a = (a.0, first_bytes n xs a.1)

key_bytes : (its : List ℕ) → AllBytes (route_key its)
key_bytes its = first_bytes (count its) (bytes_in (drop key_word its)) (words_bytes (drop key_word its))

key_long : (its : List ℕ) → count its ≤ 1000 → length (route_key its) ≤ 1000
key_long its short = let l = length-take (count its) (bytes_in (drop key_word its)) in omega arith

-- the key where an upper bound is, if it is at one
abbrev end_of : Bound → List ℕ
end_of Unbounded = []
end_of (Included key) = key
end_of (Excluded key) = key

-- A key where a base ends is that of a route.
high_key : (z : Sizes) (u : TreeView) (r : Option ℕ) (bound : Bound) (key : List ℕ) → IsHighRoute z u.ways r bound → bound ≡ Excluded key
    → AllBytes key × (length key ≤ 1000)
high_key z u None bound key h e = let no : Unbounded ≡ Excluded key = sym h ∙ e in cc
high_key z u (Some route) bound key h e = let same = ap end_of (sym h.3 ∙ e) in
    subst (λ (k : List ℕ). AllBytes k × (length k ≤ 1000)) same (key_bytes h.0.its, key_long h.0.its h.4.short)

never_last : (z : Sizes) (u : TreeView) (r : Option ℕ) (key : List ℕ) → ¬ IsHighRoute z u.ways r (Included key)
never_last z u None key h = cc
never_last z u (Some route) key h = let no : Included key ≡ Excluded (route_key h.0.its) = h.3 in cc

-- A base with a key goes farther than up to that one.
goes_past : (z : Sizes) (v : TreeView) (r : Option ℕ) (bound : Bound) (key : List ℕ) → AllBytes key → length key ≤ 1000 → IsHighRoute z v.ways r bound
    → is_up_to bound key ≡ true → rank 1000 key < reach_to bound
goes_past z v r Unbounded key bytes short h up = rank_within 1000 key bytes
goes_past z v r (Included high) key bytes short h up = absurd (never_last z v r high h)
goes_past z v r (Excluded high) key bytes short h up = let k = high_key z v r (Excluded high) high h refl in
    rank_rises 1000 key high short k.1 bytes k.0 (is_less (bytes_cmp key high) up)

-- So the next base goes farther, which has the key where the other one ends.
pub key_farther : (z : Sizes) (left next : Cursor) (u v : TreeView) (key : List ℕ) → IsAtLast z u left → IsAtLast z v next
    → (first_note u.notes).place.span.high ≡ Excluded key → HasKey (first_note v.notes).place.span key → reach u < reach v
key_farther z left next u v key at there ends has = let k = high_key z u left.high (first_note u.notes).place.span.high key at.high ends in
    let span = (first_note v.notes).place.span in
    subst (λ (x : Bound). reach_to x < reach v) (sym ends)
    (goes_past z v next.high span.high key k.0 k.1 there.high (second_holds (is_from span.low key) (is_up_to span.high key) has))

pub next_farther : (z : Sizes) (range : Range) (left next : Cursor) (u v : TreeView) → IsAtLast z u left → IsBefore z range next u v → reach u < reach v
next_farther z range left next u v at b = key_farther z left next u v b.key at b.at b.ends b.has

-- No base goes farther than all keys.
pub far_inside : (z : Sizes) (u : TreeView) (cursor : Cursor) → IsAtLast z u cursor → reach u ≤ room 1000
far_inside z u cursor at = by (first_note u.notes).place.span.high at.high
  where
    by : (bound : Bound) → IsHighRoute z u.ways cursor.high bound → reach_to bound ≤ room 1000
    by Unbounded h = omega arith
    by (Included key) h = absurd (never_last z u cursor.high key h)
    by (Excluded key) h = let within = rank_within 1000 key (high_key z u cursor.high (Excluded key) key h refl).0 in omega arith
