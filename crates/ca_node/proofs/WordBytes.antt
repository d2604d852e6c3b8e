-- The bytes of a word that is joined from two others, and how the first bytes of two words compare.
use Rattle.std.proofs.Common.{◌≡◌, ℕ, zero, suc, ◌+◌, ◌-◌, ◌*◌, ◌/◌, ◌%◌, ◌^◌, ◌<◌, ◌≤◌, List, ◌∷◌, ◌++◌, take, drop, sym, refl, ap, ◌∙◌, subst, arith}
use Rattle.std.proofs.Math.Nat.{mod-lt, mod-eq_of_lt}
use Rattle.std.proofs.lemmas.List.{take-append-drop}
use Rattle.std.proofs.lemmas.Nat.{pow-add, pow_pos, shl-shr, shr-shr, mod-pow-add, or_shifted, shr_below, shr_high, mod_low}
use Rattle.std.specs.Int.{to_be_bytes, w64, bytes_high_first, byte_at}
use Rattle.std.specs.Int.RustNames.{bit_or}
use Rattle.std.specs.Ordering.{nat_cmp}
use Rattle.ca_term.proofs.Bytes.{bytes_cmp, same_bytes}
use Rattle.ca_term.proofs.Numbers.{same, base_pos, byte_is, high_first_cmp}

-- A power of 256 is one of 2.
pub pow256 : (k : ℕ) → 256 ^ k ≡ 2 ^ (8 * k)
pow256 zero = refl
pow256 (suc k) = let one : suc k ≡ 1 + k = omega arith in
    let eight : 8 * suc k ≡ 8 + 8 * k = omega arith in
    ap (λ (n : ℕ). 256 ^ n) one ∙ (pow-add 256 1 k ∙ (ap (λ (n : ℕ). 256 ^ 1 * n) (pow256 k)
    ∙ sym (ap (λ (n : ℕ). 2 ^ n) eight ∙ pow-add 2 8 (8 * k))))

-- The lower bytes of a number.
drop_high : (k r x : ℕ) → drop k (bytes_high_first (k + r) x) ≡ bytes_high_first r x
drop_high zero r x = ap (λ (n : ℕ). bytes_high_first n x) (omega arith)
drop_high (suc k) r x = let e : suc k + r ≡ suc (k + r) = omega arith in
    ap (λ (n : ℕ). drop (suc k) (bytes_high_first n x)) e ∙ drop_high k r x

-- The higher bytes of a number.
take_high : (a b x : ℕ) → take a (bytes_high_first (a + b) x) ≡ bytes_high_first a (x / 2 ^ (8 * b))
take_high zero b x = refl
take_high (suc a) b x = let e : suc a + b ≡ suc (a + b) = omega arith in
    ap (λ (n : ℕ). take (suc a) (bytes_high_first n x)) e
    ∙ (ap (λ (y : ℕ). y ∷ take a (bytes_high_first (a + b) x)) head
    ∙ ap (λ (ys : List ℕ). byte_at a (x / 2 ^ (8 * b)) ∷ ys) (take_high a b x))
  where
    head : byte_at (a + b) x ≡ byte_at a (x / 2 ^ (8 * b))
    head = let e : 8 * (a + b) ≡ 8 * b + 8 * a = omega arith in
        byte_is (a + b) x ∙ (ap (λ (p : ℕ). x / p % 256) (pow256 (a + b))
        ∙ (ap (λ (n : ℕ). x / 2 ^ n % 256) e
        ∙ (ap (λ (n : ℕ). n % 256) (sym (shr-shr x (8 * b) (8 * a)))
        ∙ sym (byte_is a (x / 2 ^ (8 * b))
        ∙ ap (λ (p : ℕ). x / 2 ^ (8 * b) / p % 256) (pow256 a)))))

-- Numbers with the same low part have the same low bytes.
same_high : (n x y : ℕ) → x % 256 ^ n ≡ y % 256 ^ n → bytes_high_first n x ≡ bytes_high_first n y
same_high n x y e = same_bytes (bytes_high_first n x) (bytes_high_first n y)
    (high_first_cmp n x y ∙ (ap (λ (k : ℕ). nat_cmp k (y % 256 ^ n)) e ∙ same (y % 256 ^ n)))

-- A number of r and k bytes, the higher ones the low bytes of one number, the lower ones the high
-- bytes of another.
module _ (k r w v : ℕ) (fits : v < 2 ^ (8 * k + 8 * r)) where
  abbrev both : ℕ
  both = bit_or (w * 2 ^ (8 * k) % 2 ^ (8 * r + 8 * k)) (v / 2 ^ (8 * r))

  low_fits : v / 2 ^ (8 * r) < 2 ^ (8 * k)
  low_fits = shr_below v (8 * k) (8 * r) fits

  high : w * 2 ^ (8 * k) % 2 ^ (8 * r + 8 * k) ≡ (w % 2 ^ (8 * r)) * 2 ^ (8 * k)
  high = let p : ℕ = 2 ^ (8 * k) in let q : ℕ = 2 ^ (8 * r) in
      let none : w * p % p ≡ 0 = ap (λ (n : ℕ). n % p) (omega arith)
      ∙ mod_low w (8 * k) 0 (pow_pos (8 * k)) in
      mod-pow-add (w * p) (8 * r) (8 * k)
      ∙ (ap (λ (n : ℕ). (n % q) * p + w * p % p) (shl-shr w (8 * k))
      ∙ (ap (λ (n : ℕ). (w % q) * p + n) none ∙ omega arith))

  parts : both ≡ (w % 2 ^ (8 * r)) * 2 ^ (8 * k) + v / 2 ^ (8 * r)
  parts = ap (λ (n : ℕ). bit_or n (v / 2 ^ (8 * r))) high
      ∙ or_shifted (w % 2 ^ (8 * r)) (8 * k) (v / 2 ^ (8 * r)) low_fits

  above : both / 2 ^ (8 * k) ≡ w % 2 ^ (8 * r)
  above = ap (λ (n : ℕ). n / 2 ^ (8 * k)) parts
      ∙ shr_high (w % 2 ^ (8 * r)) (8 * k) (v / 2 ^ (8 * r)) low_fits

  under : both % 2 ^ (8 * k) ≡ v / 2 ^ (8 * r)
  under = ap (λ (n : ℕ). n % 2 ^ (8 * k)) parts
      ∙ mod_low (w % 2 ^ (8 * r)) (8 * k) (v / 2 ^ (8 * r)) low_fits

  -- The parts as the bytes of a number have them.
  above_part : both / 2 ^ (8 * k) % 256 ^ r ≡ w % 256 ^ r
  above_part = ap (λ (n : ℕ). n % 256 ^ r) above
      ∙ (ap (λ (p : ℕ). w % p % 256 ^ r) (sym (pow256 r)) ∙ mod-eq_of_lt (mod-lt w (base_pos r)))

  under_part : both % 256 ^ k ≡ v / 2 ^ (8 * r) % 256 ^ k
  under_part = let l : v / 2 ^ (8 * r) < 256 ^ k = subst
      (λ (p : ℕ). v / 2 ^ (8 * r) < p) (sym (pow256 k)) low_fits in
      ap (λ (p : ℕ). both % p) (pow256 k) ∙ (under ∙ sym (mod-eq_of_lt l))

  front : take r (bytes_high_first (r + k) both) ≡ drop k (bytes_high_first (k + r) w)
  front = take_high r k both
      ∙ (same_high r (both / 2 ^ (8 * k)) w above_part ∙ sym (drop_high k r w))

  behind : drop r (bytes_high_first (r + k) both) ≡ take k (bytes_high_first (k + r) v)
  behind = drop_high r k both
      ∙ (same_high k both (v / 2 ^ (8 * r)) under_part ∙ sym (take_high k r v))

  joined_high : bytes_high_first (r + k) both
      ≡ drop k (bytes_high_first (k + r) w) ++ take k (bytes_high_first (k + r) v)
  joined_high = let all : List ℕ = bytes_high_first (r + k) both in sym (take-append-drop r all)
      ∙ (ap (λ (xs : List ℕ). xs ++ drop r all) front
      ∙ ap (λ (xs : List ℕ). drop k (bytes_high_first (k + r) w) ++ xs) behind)

  -- Of eight bytes, as shifts make it.
  module _ (low : k < 8) (is_eight : k + r ≡ 8) where
    abbrev shifted : ℕ
    shifted = bit_or (w * 2 ^ (8 * k) % 2 ^ 64) (v / 2 ^ 8 / 2 ^ (56 - 8 * k))

    shifted_is : shifted ≡ both
    shifted_is = let bits : 64 ≡ 8 * r + 8 * k = omega arith in
        let down : 8 + (56 - 8 * k) ≡ 8 * r = omega arith in
        ap (bit_or (w * 2 ^ (8 * k) % 2 ^ 64)) (shr-shr v 8 (56 - 8 * k)
        ∙ ap (λ (n : ℕ). v / 2 ^ n) down)
        ∙ ap (λ (n : ℕ). bit_or (w * 2 ^ (8 * k) % 2 ^ n) (v / 2 ^ (8 * r))) bits

    joined_eight : bytes_high_first 8 shifted
        ≡ drop k (bytes_high_first 8 w) ++ take k (bytes_high_first 8 v)
    joined_eight = let turned : 8 ≡ r + k = omega arith in
        ap (bytes_high_first 8) shifted_is ∙ (ap (λ (n : ℕ). bytes_high_first n both) turned
        ∙ (joined_high
        ∙ ap (λ (n : ℕ). drop k (bytes_high_first n w) ++ take k (bytes_high_first n v))
        is_eight))

-- Two words joined, as shifts do it.
pub joined_bytes : (k w v : ℕ) → k < 8 → v < 2 ^ 64
    → to_be_bytes w64 (bit_or (w * 2 ^ (8 * k) % 2 ^ 64) (v / 2 ^ 8 / 2 ^ (56 - 8 * k)))
    ≡ drop k (to_be_bytes w64 w) ++ take k (to_be_bytes w64 v)
joined_bytes k w v l fits = let all : 64 ≡ 8 * k + 8 * (8 - k) = omega arith in
    joined_eight k (8 - k) w v (subst (λ (n : ℕ). v < 2 ^ n) all fits) l (omega arith)

-- The first n of n and r bytes of two numbers compare as what is left of the numbers without the
-- others.
module _ (n r x y : ℕ) (fits : x < 2 ^ (8 * n + 8 * r)) (fits_too : y < 2 ^ (8 * n + 8 * r)) where
  abbrev a : ℕ
  a = x / 2 ^ (8 * r)

  abbrev b : ℕ
  b = y / 2 ^ (8 * r)

  top : (z : ℕ) → z < 2 ^ (8 * n + 8 * r) → z / 2 ^ (8 * r) % 256 ^ n ≡ z / 2 ^ (8 * r)
  top z l = mod-eq_of_lt (subst
      (λ (p : ℕ). z / 2 ^ (8 * r) < p) (sym (pow256 n)) (shr_below z (8 * n) (8 * r) l))

  tops : bytes_cmp (take n (bytes_high_first (n + r) x)) (take n (bytes_high_first (n + r) y))
      ≡ nat_cmp a b
  tops = ap (λ (xs : List ℕ). bytes_cmp xs (take n (bytes_high_first (n + r) y))) (take_high n r x)
      ∙ (ap (bytes_cmp (bytes_high_first n a)) (take_high n r y)
      ∙ (high_first_cmp n a b ∙ (ap (λ (k : ℕ). nat_cmp k (b % 256 ^ n)) (top x fits)
      ∙ ap (nat_cmp a) (top y fits_too))))

  tops_of_eight : n + r ≡ 8
      → nat_cmp a b ≡ bytes_cmp (take n (bytes_high_first 8 x)) (take n (bytes_high_first 8 y))
  tops_of_eight e = sym tops
      ∙ ap (λ (k : ℕ). bytes_cmp (take n (bytes_high_first k x)) (take n (bytes_high_first k y))) e

-- The first bytes of two words compare as numbers.
pub tops_compare : (n x y : ℕ) → n ≤ 8 → x < 2 ^ 64 → y < 2 ^ 64
    → nat_cmp (x / 2 ^ (64 - 8 * n)) (y / 2 ^ (64 - 8 * n))
    ≡ bytes_cmp (take n (to_be_bytes w64 x)) (take n (to_be_bytes w64 y))
tops_compare n x y l fits fits_too = let all : 64 ≡ 8 * n + 8 * (8 - n) = omega arith in
    let down : 64 - 8 * n ≡ 8 * (8 - n) = omega arith in
    ap (λ (k : ℕ). nat_cmp (x / 2 ^ k) (y / 2 ^ k)) down
    ∙ tops_of_eight n (8 - n) x y (subst (λ (k : ℕ). x < 2 ^ k) all fits) (subst
    (λ (k : ℕ). y < 2 ^ k) all fits_too) (omega arith)
