-- How a key that stands in the bytes of words compares with another one, eight bytes at a time.
use Rattle.std.proofs.Common.{◌≡◌, ◌≢◌, true, false, ℕ, ◌+◌, ◌-◌, ◌<◌, ◌≤◌, List, [], ◌∷◌, length, min, take, drop, sym, refl, ap, subst, ◌∙◌, ⊎_elim, arith, length-drop}
use Rattle.std.proofs.Math.ListN.{drop_of_length-le}
use Rattle.std.proofs.Math.Nat.{eq-or-lt_of_le}
use Rattle.std.proofs.lemmas.Bool.{cases_lt}
use Rattle.std.proofs.lemmas.List.{take_rest, length-take-le, take-take, drop-drop, drop-take}
use Rattle.std.specs.declared.cmp.Ordering.{Ordering}
use Rattle.std.specs.declared.cmp.Ordering.TheVariants.{Less, Equal, Greater}
use Rattle.std.specs.Int.{to_be_bytes, w64}
use Rattle.std.specs.Ordering.{nat_cmp, is_ne}
use Rattle.ca_term.proofs.Numbers.{less, same, greater}
use Rattle.ca_model.specs.StoreMap.{bytes_cmp}
use Rattle.ca_node.specs.Walking.{AreAlikeUpTo, BeginsWith, HasBytesFrom}
use Rattle.ca_node.proofs.WordOrder.{parts_decide, rests_decide, nothing_first}

pub is_equal : (o : Ordering) → is_ne o ≡ false → o ≡ Equal
is_equal Less e = cc
is_equal Equal e = refl
is_equal Greater e = cc

pub is_other : (o : Ordering) → is_ne o ≡ true → o ≢ Equal
is_other Less e f = cc
is_other Equal e f = let z : false ≡ true = e in cc
is_other Greater e f = cc

nothing_last : (xs : List ℕ) → 0 < length xs → bytes_cmp xs [] ≡ Greater
nothing_last [] l = absurd (omega arith)
nothing_last (x ∷ xs) l = refl

-- Where all bytes of the shorter one of two lists were equal, the lengths decide.
lengths_decide : (xs ys : List ℕ) (n : ℕ) → n ≡ min (length ys) (length xs)
    → nat_cmp (length xs) (length ys) ≡ bytes_cmp (drop n xs) (drop n ys)
lengths_decide xs ys n e = let a = length-drop n xs in let b = length-drop n ys in ⊎_elim
    (λ (l : length xs < length ys).
    let none : drop n xs ≡ [] = drop_of_length-le xs (omega arith) in
    less (length xs) (length ys) l ∙ sym (ap (λ (zs : List ℕ). bytes_cmp zs (drop n ys)) none
    ∙ (sym (nothing_first (drop n ys)) ∙ less 0 (length (drop n ys)) (omega arith))))
    (λ (l : length ys ≤ length xs).
    let none : drop n ys ≡ [] = drop_of_length-le ys (omega arith) in
    sym (ap (bytes_cmp (drop n xs)) none ∙ ⊎_elim
    (λ (h : length ys ≡ length xs). ap
    (λ (zs : List ℕ). bytes_cmp zs []) (drop_of_length-le xs (omega arith))
    ∙ sym (ap (λ (k : ℕ). nat_cmp k (length ys)) (sym h) ∙ same (length ys)))
    (λ (h : length ys < length xs). nothing_last (drop n xs) (omega arith)
    ∙ sym (greater (length xs) (length ys) h)) (eq-or-lt_of_le l)))
    (cases_lt (length xs) (length ys))

-- The first bytes of a word that has those of a key from a place on are the key's.
pub front_part : (key : List ℕ) (from n word : ℕ) → HasBytesFrom key from word → n ≤ 8
    → n ≤ length key - from
    → take n (to_be_bytes w64 word) ≡ take n (drop from key)
front_part key from n word is few l = sym (take-take n (length key - from) (to_be_bytes w64 word) l)
    ∙ (ap (take n) is ∙ take-take n 8 (drop from key) few)

-- A word that begins with a key has its bytes from the first one on.
pub first_word : (key : List ℕ) (from word : ℕ) → from ≡ 0 → BeginsWith key word
    → HasBytesFrom key from word
first_word key from word none begins = let all : length key - from ≡ length key = omega arith in
    ap (λ (k : ℕ). take k (to_be_bytes w64 word)) all
    ∙ (begins ∙ ap (λ (k : ℕ). take 8 (drop k key)) (sym none))

-- So does one that begins with what is behind that place.
pub behind : (key : List ℕ) (from word : ℕ)
    → BeginsWith (take (length key - from) (drop from key)) word → HasBytesFrom key from word
behind key from word begins =
    subst (λ (k : ℕ). take k (to_be_bytes w64 word) ≡ take 8 (drop from key)) (length-drop from key)
    (subst (λ (xs : List ℕ). BeginsWith xs word) (take_rest key from) begins)

-- A key stands in the bytes from `start` to `end`. Up to `at` it is equal to the other
-- key.
module _ (bytes key : List ℕ) (start end : ℕ) where
  abbrev pub own : List ℕ
  own = take (end - start) (drop start bytes)

  abbrev pub IsLeft : ℕ → Type 0
  IsLeft at = bytes_cmp own key ≡ bytes_cmp (drop (at - start) own) (drop (at - start) key)

  pub left_first : IsLeft start
  left_first = let none : start - start ≡ 0 = omega arith in
      ap (λ (k : ℕ). bytes_cmp (drop k own) (drop k key)) (sym none)

  -- Two words begin with the next bytes of both.
  module _ (at n word other : ℕ) (low : start ≤ at) (high : at + n ≤ end) (left : IsLeft at)
      (has : take n (to_be_bytes w64 word) ≡ take n (drop at bytes))
      (has_too : take n (to_be_bytes w64 other) ≡ take n (drop (at - start) key))
      (o : Ordering)
      (is : o ≡ bytes_cmp (take n (to_be_bytes w64 word))
      (take n (to_be_bytes w64 other))) where
    own_part : take n (drop (at - start) own) ≡ take n (drop at bytes)
    own_part = let split : end - start ≡ (at - start) + (end - at) = omega arith in
        let there : start + (at - start) ≡ at = omega arith in
        ap (λ (k : ℕ). take n (drop (at - start) (take k (drop start bytes)))) split
        ∙ (ap (take n) (drop-take (at - start) (end - at) (drop start bytes))
        ∙ (take-take n (end - at) (drop (at - start) (drop start bytes)) (omega arith)
        ∙ ap (take n) (drop-drop (at - start) start bytes ∙ ap (λ (k : ℕ). drop k bytes) there)))

    fronts : o ≡ bytes_cmp (take n (drop (at - start) own)) (take n (drop (at - start) key))
    fronts = is
        ∙ (ap (λ (xs : List ℕ). bytes_cmp xs (take n (to_be_bytes w64 other))) (has ∙ sym own_part)
        ∙ ap (bytes_cmp (take n (drop (at - start) own))) has_too)

    -- Where they differ, they decide.
    pub decided : o ≢ Equal → o ≡ bytes_cmp own key
    decided not = fronts ∙ sym (left
        ∙ parts_decide n (drop (at - start) own) (drop (at - start) key) (λ e. not (fronts ∙ e)))

    -- Where they are equal, so are the keys up to their end.
    pub left_on : o ≡ Equal → IsLeft (at + n)
    left_on e = let along : at - start + n ≡ at + n - start = omega arith in
        let a : drop n (drop (at - start) own) ≡ drop (at + n - start) own =
        drop-drop n (at - start) own ∙ ap (λ (k : ℕ). drop k own) along in
        let b : drop n (drop (at - start) key) ≡ drop (at + n - start) key =
        drop-drop n (at - start) key ∙ ap (λ (k : ℕ). drop k key) along in
        left ∙ (rests_decide n (drop (at - start) own) (drop (at - start) key) (sym fronts ∙ e)
        ∙ (ap (λ (xs : List ℕ). bytes_cmp xs (drop n (drop (at - start) key))) a
        ∙ ap (bytes_cmp (drop (at + n - start) own)) b))

  -- Where all of the shorter one was equal, the lengths decide.
  pub left_none : (at : ℕ) → start ≤ end → end ≤ length bytes
      → at - start ≡ min (length key) (end - start) → IsLeft at
      → nat_cmp (end - start) (length key) ≡ bytes_cmp own key
  left_none at low high e left = let all = length-drop start bytes in
      let long : length own ≡ end - start =
      length-take-le (end - start) (drop start bytes) (omega arith) in
      ap (λ (k : ℕ). nat_cmp k (length key)) (sym long)
      ∙ (lengths_decide own key (at - start) (e ∙ ap (min (length key)) (sym long)) ∙ sym left)

-- A key that stands at the beginning, and is equal to the other one up to a place, is so by the bytes.
pub left_alike : (bytes key : List ℕ) (end at : ℕ) → AreAlikeUpTo at (take end bytes) key
    → IsLeft bytes key 0 end at
left_alike bytes key end at alike = let a : end - 0 ≡ end = omega arith in
    let b : at - 0 ≡ at = omega arith in
    subst (λ (k : ℕ). bytes_cmp (take k bytes) key ≡ bytes_cmp (drop (at - 0) (take k bytes)) (drop (at - 0) key)) (sym a)
    (subst (λ (k : ℕ). bytes_cmp (take end bytes) key ≡ bytes_cmp (drop k (take end bytes)) (drop k key)) (sym b) alike)

-- And the other way.
pub alike_left : (bytes key : List ℕ) (end at : ℕ) → IsLeft bytes key 0 end at
    → AreAlikeUpTo at (take end bytes) key
alike_left bytes key end at left = let a : end - 0 ≡ end = omega arith in
    let b : at - 0 ≡ at = omega arith in
    subst (λ (k : ℕ). bytes_cmp (take end bytes) key ≡ bytes_cmp (drop k (take end bytes)) (drop k key)) b
    (subst (λ (k : ℕ). bytes_cmp (take k bytes) key ≡ bytes_cmp (drop (at - 0) (take k bytes)) (drop (at - 0) key)) a left)
