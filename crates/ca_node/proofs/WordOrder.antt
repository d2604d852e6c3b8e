-- How byte lists compare, a word of eight bytes at a time.
use Rattle.std.proofs.Common.{◌≡◌, ◌≢◌, ℕ, zero, suc, ◌+◌, ◌*◌, ◌<◌, ◌≤◌, List, [], ◌∷◌, ◌++◌, length, get_or, take, drop, sym, refl, ap, ◌∙◌, arith, length-drop, length-append}
use Rattle.std.proofs.Math.Seq.{take-append_seam, drop-append-add}
use Rattle.std.proofs.lemmas.List.{take-take, get_or-drop}
use Rattle.std.specs.declared.cmp.Ordering.{Ordering}
use Rattle.std.specs.declared.cmp.Ordering.TheVariants.{Less, Equal, Greater}
use Rattle.std.specs.Int.{to_be_bytes, w64}
use Rattle.std.specs.Ordering.{nat_cmp, ordering_then}
use Rattle.ca_term.proofs.Numbers.{less, same, length_high_first}
use Rattle.ca_model.specs.StoreMap.{bytes_cmp}
use Rattle.ca_node.specs.Row.{bytes_in}
use Rattle.ca_rows.specs.Layout.{row_words}
use Rattle.ca_node.specs.Layout.{key_word}

-- Where the first parts differ, they decide.
pub parts_decide : (n : ℕ) (xs ys : List ℕ) → bytes_cmp (take n xs) (take n ys) ≢ Equal
    → bytes_cmp xs ys ≡ bytes_cmp (take n xs) (take n ys)
parts_decide zero xs ys not = absurd (not refl)
parts_decide (suc n) [] [] not = refl
parts_decide (suc n) [] (y ∷ ys) not = refl
parts_decide (suc n) (x ∷ xs) [] not = refl
parts_decide (suc n) (x ∷ xs) (y ∷ ys) not = by (nat_cmp x y) not (parts_decide n xs ys)
  where
    by : (o : Ordering) → ordering_then o (bytes_cmp (take n xs) (take n ys)) ≢ Equal
        → (bytes_cmp (take n xs) (take n ys) ≢ Equal
        → bytes_cmp xs ys ≡ bytes_cmp (take n xs) (take n ys))
        → ordering_then o (bytes_cmp xs ys) ≡ ordering_then o (bytes_cmp (take n xs) (take n ys))
    by Less not rest = refl
    by Equal not rest = rest not
    by Greater not rest = refl

-- Where they are equal, the rests decide.
pub rests_decide : (n : ℕ) (xs ys : List ℕ) → bytes_cmp (take n xs) (take n ys) ≡ Equal
    → bytes_cmp xs ys ≡ bytes_cmp (drop n xs) (drop n ys)
rests_decide zero xs ys same = refl
rests_decide (suc n) [] [] same = refl
rests_decide (suc n) [] (y ∷ ys) same = cc
rests_decide (suc n) (x ∷ xs) [] same = cc
rests_decide (suc n) (x ∷ xs) (y ∷ ys) same = by (nat_cmp x y) same (rests_decide n xs ys)
  where
    by : (o : Ordering) → ordering_then o (bytes_cmp (take n xs) (take n ys)) ≡ Equal
        → (bytes_cmp (take n xs) (take n ys) ≡ Equal
        → bytes_cmp xs ys ≡ bytes_cmp (drop n xs) (drop n ys))
        → ordering_then o (bytes_cmp xs ys) ≡ bytes_cmp (drop n xs) (drop n ys)
    by Less same rest = cc
    by Equal same rest = rest same
    by Greater same rest = cc

-- Nothing is less than any bytes, and equal to none.
pub nothing_first : (ys : List ℕ) → nat_cmp 0 (length ys) ≡ bytes_cmp [] ys
nothing_first [] = same 0
nothing_first (y ∷ ys) = less 0 (suc (length ys)) (omega arith)

-- Eight bytes at a place are one word's.
pub word_part : (words : List ℕ) (i : ℕ) → i < length words
    → take 8 (drop (8 * i) (bytes_in words)) ≡ to_be_bytes w64 (get_or words i 0)
word_part [] i l = absurd (omega arith)
word_part (x ∷ xs) zero l = first (to_be_bytes w64 x) (bytes_in xs) (length_high_first 8 x)
  where
    first : (a b : List ℕ) → length a ≡ 8 → take 8 (a ++ b) ≡ a
    first a b long = ap (λ (n : ℕ). take n (a ++ b)) (sym long) ∙ take-append_seam a b
word_part (x ∷ xs) (suc i) l =
    ap (take 8) (past (to_be_bytes w64 x) (bytes_in xs) (length_high_first 8 x))
    ∙ word_part xs i (omega arith)
  where
    past : (a b : List ℕ) → length a ≡ 8 → drop (8 * suc i) (a ++ b) ≡ drop (8 * i) b
    past a b long = let n : 8 * suc i ≡ length a + 8 * i = omega arith in
        ap (λ (k : ℕ). drop k (a ++ b)) n ∙ drop-append-add a b (8 * i)

-- All words together have eight bytes a word.
pub bytes_long : (words : List ℕ) → length (bytes_in words) ≡ 8 * length words
bytes_long [] = refl
bytes_long (x ∷ xs) = let one = length_high_first 8 x in let rest = bytes_long xs in
    omega (arith, length-append (to_be_bytes w64 x) (bytes_in xs))

-- The first bytes at the place of a word of a route are those of the word.
pub route_part : (its : List ℕ) (i n word : ℕ) → length its ≡ row_words → n ≤ 8 → i < 125
    → word ≡ get_or its (key_word + i) 0
    → take n (to_be_bytes w64 word) ≡ take n (drop (8 * i) (bytes_in (drop key_word its)))
route_part its i n word long few low is =
    ap (λ (w : ℕ). take n (to_be_bytes w64 w)) (is ∙ sym (get_or-drop key_word its i 0))
    ∙ (ap (take n) (sym (word_part (drop key_word its) i (omega (arith, length-drop key_word its))))
    ∙ take-take n 8 (drop (8 * i) (bytes_in (drop key_word its))) few)
