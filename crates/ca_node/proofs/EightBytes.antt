-- The first eight bytes of a list as a word.
use Rattle.std.proofs.Common.{◌≡◌, ℕ, zero, suc, ◌+◌, ◌-◌, ◌<◌, ◌≤◌, min, List, [], ◌∷◌, ◌++◌, length, take, drop, get_or, sym, refl, ap, ◌∙◌, subst, ⊎_elim, arith, length-drop, length-append, append-nil}
use Rattle.std.proofs.lemmas.Bool.{cases_lt}
use Rattle.std.proofs.lemmas.List.{take_all, take_at, length-take-le, get_or_append_left, get_or-append_right, get_or-take, get_or-drop}
use Rattle.std.proofs.lemmas.Nat.{be_bytes_8}
use Rattle.std.specs.Int.{to_be_bytes, from_be_bytes, w64}
use borrow.Rule.Slice.PartMut.{put_mid}
use Rattle.ca_node.specs.Walking.{BeginsWith}

abbrev eight_zeros : List ℕ
eight_zeros = 0 ∷ 0 ∷ 0 ∷ 0 ∷ 0 ∷ 0 ∷ 0 ∷ 0 ∷ []

zero_there : (k : ℕ) → get_or eight_zeros k 0 ≡ 0
zero_there zero = refl
zero_there (suc zero) = refl
zero_there (suc (suc zero)) = refl
zero_there (suc (suc (suc zero))) = refl
zero_there (suc (suc (suc (suc zero)))) = refl
zero_there (suc (suc (suc (suc (suc zero))))) = refl
zero_there (suc (suc (suc (suc (suc (suc zero)))))) = refl
zero_there (suc (suc (suc (suc (suc (suc (suc zero))))))) = refl
zero_there (suc (suc (suc (suc (suc (suc (suc (suc k)))))))) = refl

abbrev eight_first : ℕ → List ℕ → List ℕ
eight_first n bytes = take n bytes ++ drop n eight_zeros

eight_long : (n : ℕ) (bytes : List ℕ) → n ≤ length bytes → n ≤ 8 → length (eight_first n bytes) ≡ 8
eight_long n bytes a b =
    omega (
      arith,
      length-append (take n bytes) (drop n eight_zeros),
      length-take-le n bytes a,
      length-drop n eight_zeros,
    )

eight_front : (n : ℕ) (bytes : List ℕ) (k : ℕ) → n ≤ length bytes → k < n
    → get_or (eight_first n bytes) k 0 ≡ get_or bytes k 0
eight_front n bytes k a b =
    get_or_append_left (take n bytes) (drop n eight_zeros) 0 k (omega (
      arith,
      length-take-le n bytes a,
    )) ∙ get_or-take n bytes k 0 b

eight_behind : (n : ℕ) (bytes : List ℕ) (k : ℕ) → n ≤ length bytes → n ≤ k
    → get_or (eight_first n bytes) k 0 ≡ 0
eight_behind n bytes k a b =
    get_or-append_right (take n bytes) (drop n eight_zeros) n k 0 (length-take-le n bytes a) b
    ∙ (get_or-drop n eight_zeros (k - n) 0 ∙ zero_there (n + (k - n)))

-- The bytes at the front, with zeros behind them, as a word.
module _ (bytes : List ℕ) (n w : ℕ) (part : List ℕ) (small : (i : ℕ) → get_or bytes i 0 < 256)
    (n_is : n ≡ min (length bytes) 8) (part_is : part ≡ take n bytes)
    (w_is : w ≡ from_be_bytes w64 (put_mid 0 n eight_zeros part)) where
  few : n ≤ length bytes
  few = omega arith

  spells : to_be_bytes w64 w ≡ eight_first n bytes
  spells = be_bytes_8 (eight_first n bytes) w (eight_long n bytes few (omega arith))
      (λ i. ⊎_elim (λ (l : i < n). subst
      (λ (y : ℕ). y < 256) (sym (eight_front n bytes i few l)) (small i))
      (λ (l : n ≤ i). subst (λ (y : ℕ). y < 256) (sym (eight_behind n bytes i few l)) (omega arith))
      (cases_lt i n))
      (w_is ∙ ap (λ (ys : List ℕ). from_be_bytes w64 (put_mid 0 n eight_zeros ys)) part_is)

  pub top_begins : BeginsWith bytes w
  top_begins = ap (take (length bytes)) spells ∙ ⊎_elim
      (λ (l : 8 < length bytes). let eight : n ≡ 8 = omega arith in
      take_all (length bytes) (eight_first n bytes) (omega (arith, eight_long n bytes few (omega arith)))
      ∙ (ap (λ (y : ℕ). eight_first y bytes) eight ∙ append-nil (take 8 bytes)))
      (λ (l : length bytes ≤ 8). let all : n ≡ length bytes = omega arith in
      ap (λ (y : ℕ). take (length bytes) (eight_first y bytes)) all
      ∙ (take_at (take (length bytes) bytes) (drop (length bytes) eight_zeros) (length bytes)
      (length-take-le (length bytes) bytes (omega arith))
      ∙ (take_all (length bytes) bytes (omega arith) ∙ sym (take_all 8 bytes l))))
      (cases_lt 8 (length bytes))

  pub top_zeros : (k : ℕ) → length bytes ≤ k → get_or (to_be_bytes w64 w) k 0 ≡ 0
  top_zeros k l = ap (λ (ys : List ℕ). get_or ys k 0) spells ∙ eight_behind n bytes k few (omega arith)
