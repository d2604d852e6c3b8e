-- Integers of 64 bits, as tests and as facts.
use Rattle.std.proofs.Common.{◌≡◌, ◌≢◌, ℕ, zero, suc, ◌+◌, ◌*◌, ◌/◌, ◌%◌, ◌<◌, ◌≤◌, ◌^◌, ℤ, pos, negsuc, Bool, true, false, Option, Some, None, refl, ap, sym, ◌∙◌, arith, nat_lt, ◌==◌}
use Rattle.std.specs.Prelude.{FitsSigned, SomeIff, neg_ℤ, unsigned_abs, int_div, int_rem, if◌then◌else◌}
use Rattle.std.specs.Int.{w64, CanDivide, IsNonZero}
use Rattle.std.specs.Option.{option_map}
use Rattle.std.proofs.lemmas.Bool.Decides.{nat_tests}
use Rattle.std.proofs.lemmas.Int.{ints, quot_fits, fits_signed_from_abs, rem_below}
use Rattle.std.proofs.Math.Nat.{mul-div-le, suc-mul}
use Rattle.ca_term.specs.Tree.{Tree, Integer}
use Rattle.ca_term.specs.Updates.{is_word}
use Rattle.ca_match.specs.Operators.{on_divisor, word}

fits_is_word : (z : ℤ) → FitsSigned w64 z → is_word z ≡ true
fits_is_word (pos n) h = let l : n < 2 ^ 63 = h.sfits in grind (arith, nat_tests)
fits_is_word (negsuc n) h = let l : n < 2 ^ 63 = h.sfits in grind (arith, nat_tests)

below_word : (n : ℕ) → (n < 2 ^ 63 → ⊥) → nat_lt n (2 ^ 63) ≡ false
below_word n h = grind (arith, nat_tests)

no_fit_no_word : (z : ℤ) → ¬ FitsSigned w64 z → is_word z ≡ false
no_fit_no_word (pos n) h = below_word n (λ l. h (record { sfits = l }))
no_fit_no_word (negsuc n) h = below_word n (λ l. h (record { sfits = l }))

abbrev where_word : ℤ → Bool → Option Tree
where_word z b = if b then Some (Integer z) else None

-- An integer that fits is a word.
pub word_of_word : (z : ℤ) → FitsSigned w64 z → word z ≡ Some (Integer z)
word_of_word z h = ap (where_word z) (fits_is_word z h)

-- An integer that doesn't fit is none.
pub no_word : (z : ℤ) → ¬ FitsSigned w64 z → None ≡ word z
no_word z h = sym (ap (where_word z) (no_fit_no_word z h))

-- Some integer exactly where it fits.
pub word_where_fits : (r : Option ℤ) (z : ℤ) → SomeIff r (FitsSigned w64 z) z → option_map Integer r ≡ word z
word_where_fits None z h = no_word z h
word_where_fits (Some n) z h = ap (λ k. Some (Integer k)) h.1 ∙ sym (word_of_word z h.0)

-- ---- quotients

-- by a divisor other than 0
by_divisor : (f : ℤ → ℤ → ℤ) (m n : ℤ) → (unsigned_abs n == 0) ≡ false → word (f m n) ≡ on_divisor f m n
by_divisor f m n h = sym (ap (λ (b : Bool). if b then None else word (f m n)) h)

not_zero : (k : ℕ) → (suc k == 0) ≡ false
not_zero k = grind (arith, nat_tests)

divided : (r : Option ℤ) (m n : ℤ) → IsNonZero w64 n → SomeIff r (CanDivide w64 m n) (int_div m n) → option_map Integer r ≡ word (int_div m n)
divided None m n z h = no_word (int_div m n) (λ f. h (z, f))
divided (Some q) m n z h = ap (λ k. Some (Integer k)) h.1 ∙ sym (word_of_word (int_div m n) h.0.1)

by_zero : (f : ℤ → ℤ → ℤ) (r : Option ℤ) (m v : ℤ) → SomeIff r (CanDivide w64 m (pos 0)) v → option_map Integer r ≡ on_divisor f m (pos 0)
by_zero f None m v h = refl
by_zero f (Some q) m v h = absurd (omega (arith, h.0.0))

is_positive : (k : ℕ) → IsNonZero w64 (pos (suc k))
is_positive k = omega arith

is_negative : (k : ℕ) → FitsSigned w64 (negsuc k) → IsNonZero w64 (negsuc k)
is_negative k f = omega (arith, f.sfits)

pub quotient_where_fits : (r : Option ℤ) (m n : ℤ) → FitsSigned w64 n → SomeIff r (CanDivide w64 m n) (int_div m n)
    → option_map Integer r ≡ on_divisor int_div m n
quotient_where_fits r m (pos zero) f h = by_zero int_div r m (int_div m (pos 0)) h
quotient_where_fits r m (pos (suc k)) f h = divided r m (pos (suc k)) (is_positive k) h ∙ by_divisor int_div m (pos (suc k)) (not_zero k)
quotient_where_fits r m (negsuc k) f h = divided r m (negsuc k) (is_negative k f) h ∙ by_divisor int_div m (negsuc k) (not_zero k)

-- ---- remainders

half : (x k : ℕ) → x ≤ 2 ^ 63 → x / suc (suc k) < 2 ^ 63
half x k h =
    let q : ℕ = x / suc (suc k) in
    let e : suc (suc k) * q ≤ x = mul-div-le x (suc (suc k)) in
    let f : suc (suc k) * q ≡ k * q + q + q = suc-mul (suc k) q ∙ ap (λ (n : ℕ). n + q) (suc-mul k q) in
    omega arith

fits_negated : (q : ℕ) → q < 2 ^ 63 → FitsSigned w64 (neg_ℤ (pos q))
fits_negated zero h = record { sfits = h }
fits_negated (suc q) h = record { sfits = omega arith }

-- a quotient by a number other than 0 and -1 fits
quotient_fits : (m n : ℤ) → FitsSigned w64 m → IsNonZero w64 n → n ≢ negsuc 0 → FitsSigned w64 (int_div m n)
quotient_fits m (pos zero) f z h = absurd (omega (arith, z))
quotient_fits m (pos (suc k)) f z h = quot_fits w64 m (pos (suc k)) f (omega (arith, ints))
quotient_fits (pos a) (negsuc zero) f z h = absurd (h refl)
quotient_fits (negsuc a) (negsuc zero) f z h = absurd (h refl)
quotient_fits (pos a) (negsuc (suc k)) f z h = fits_negated (a / suc (suc k)) (half a k (omega (arith, f.sfits)))
quotient_fits (negsuc a) (negsuc (suc k)) f z h = record { sfits = half (suc a) k (omega (arith, f.sfits)) }

no_rest : (a : ℕ) → 0 ≡ a % 1
no_rest a = omega arith

pub remainder_of_one : (m : ℤ) → Some (Integer (pos 0)) ≡ on_divisor int_rem m (negsuc 0)
remainder_of_one (pos a) = ap (λ (k : ℕ). word (pos k)) (no_rest a)
remainder_of_one (negsuc a) = ap (λ (k : ℕ). word (neg_ℤ (pos k))) (no_rest (suc a))

size_below : (n : ℤ) → FitsSigned w64 n → unsigned_abs n ≤ 2 ^ 63
size_below (pos k) f = omega (arith, f.sfits)
size_below (negsuc k) f = omega (arith, f.sfits)

size_above : (n : ℤ) → IsNonZero w64 n → 0 < unsigned_abs n
size_above (pos k) z = z
size_above (negsuc k) z = omega arith

rem_fits : (m n : ℤ) → FitsSigned w64 n → IsNonZero w64 n → FitsSigned w64 (int_rem m n)
rem_fits m n f z =
    let b : unsigned_abs (int_rem m n) < unsigned_abs n = rem_below m n (size_above n z) in
    let s : unsigned_abs n ≤ 2 ^ 63 = size_below n f in
    fits_signed_from_abs w64 (int_rem m n) (omega arith)

left_over : (r : Option ℤ) (m n : ℤ) → FitsSigned w64 m → FitsSigned w64 n → IsNonZero w64 n → n ≢ negsuc 0 → SomeIff r (CanDivide w64 m n) (int_rem m n)
    → option_map Integer r ≡ word (int_rem m n)
left_over None m n f g z o h = absurd (h (z, quotient_fits m n f z o))
left_over (Some q) m n f g z o h = ap (λ k. Some (Integer k)) h.1 ∙ sym (word_of_word (int_rem m n) (rem_fits m n g z))

pub remainder_where_fits : (r : Option ℤ) (m n : ℤ) → FitsSigned w64 m → FitsSigned w64 n → n ≢ negsuc 0 → SomeIff r (CanDivide w64 m n) (int_rem m n)
    → option_map Integer r ≡ on_divisor int_rem m n
remainder_where_fits r m (pos zero) f g o h = by_zero int_rem r m (int_rem m (pos 0)) h
remainder_where_fits r m (pos (suc k)) f g o h =
    left_over r m (pos (suc k)) f g (is_positive k) o h ∙ by_divisor int_rem m (pos (suc k)) (not_zero k)
remainder_where_fits r m (negsuc k) f g o h =
    left_over r m (negsuc k) f g (is_negative k g) o h ∙ by_divisor int_rem m (negsuc k) (not_zero k)

-- ---- magnitudes

pub size_where_fits : (r : Option ℤ) (n : ℤ) → FitsSigned w64 n → SomeIff r (FitsSigned w64 (neg_ℤ n)) (pos (unsigned_abs n))
    → option_map Integer r ≡ word (pos (unsigned_abs n))
size_where_fits None (pos zero) f h = absurd (h f)
size_where_fits None (pos (suc a)) f h = absurd (h (record { sfits = omega (arith, f.sfits) }))
size_where_fits None (negsuc a) f h = no_word (pos (suc a)) h
size_where_fits (Some x) (pos a) f h = ap (λ k. Some (Integer k)) h.1 ∙ sym (word_of_word (pos a) f)
size_where_fits (Some x) (negsuc a) f h = ap (λ k. Some (Integer k)) h.1 ∙ sym (word_of_word (pos (suc a)) h.0)
