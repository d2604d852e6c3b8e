-- The number that bytes without a leading zero are the digits of.
use Rattle.std.proofs.Common.{◌≡◌, ℕ, zero, suc, ◌≤◌, ◌<◌, ◌+◌, ◌*◌, ◌%◌, ◌^◌, List, [], ◌∷◌, length, arith, refl, sym, ◌∙◌, ap, subst, ⊎_elim}
use Rattle.std.proofs.lemmas.Bool.{cases_lt}
use Rattle.std.proofs.lemmas.Nat.{div-mul-add, mod-mul-add}
use Rattle.std.proofs.Math.Nat.{mod-eq_of_lt, pow-suc, mul-le-mul_left, pow-le-pow_right}
use Rattle.std.specs.Int.{bytes_high_first, byte_at}
use Rattle.std.specs.FinMap.{nat_cmp-IsAntisymmetric, slice_cmp-IsAntisymmetric}
use Rattle.ca_term.proofs.Numbers.{same, high_first_cmp, length_high_first, top_byte, byte_is}
use Rattle.ca_term.proofs.Digits.{digits_of, digits_zero, byte_count}
use Rattle.ca_term.proofs.DigitOrder.{AllBytes, high_bytes}
use Rattle.ca_term.specs.Tree.{AreBytes}
use Rattle.ca_term.specs.Code.{digits}
use Rattle.ca_term.specs.Grammar.{AreDigits, number}

-- The first of some bytes is below 256.
pub head_byte : (b : ℕ) (bs : List ℕ) → AreBytes (b ∷ bs) → b < 256
head_byte b bs h = h 0

-- What stands behind the first byte are bytes.
pub tail_bytes : (b : ℕ) (bs : List ℕ) → AreBytes (b ∷ bs) → AreBytes bs
tail_bytes b bs h k = h (suc k)

-- No bytes are bytes.
pub no_bytes : AreBytes []
no_bytes k = omega arith

-- A byte in front of bytes makes bytes.
pub cons_bytes : (b : ℕ) (bs : List ℕ) → b < 256 → AreBytes bs → AreBytes (b ∷ bs)
cons_bytes b bs h t zero = h
cons_bytes b bs h t (suc k) = t k

each_byte : (bs : List ℕ) → AllBytes bs → AreBytes bs
each_byte [] h = no_bytes
each_byte (b ∷ bs) h = cons_bytes b bs h.0 (each_byte bs h.1)

-- A number of so many bytes is below that power of 256.
pub number_below : (bs : List ℕ) → AreBytes bs → number bs < 256 ^ length bs
number_below [] h = omega arith
number_below (b ∷ bs) h =
    omega (
      arith,
      pow-suc 256 (length bs),
      number_below bs (tail_bytes b bs h),
      head_byte b bs h,
      mul-le-mul_left {m = suc b} {n = 256} (256 ^ length bs) (omega (arith, head_byte b bs h)),
    )

same_low : (k m n : ℕ) → m % 256 ^ k ≡ n % 256 ^ k → bytes_high_first k m ≡ bytes_high_first k n
same_low k m n e =
    slice_cmp-IsAntisymmetric nat_cmp-IsAntisymmetric (bytes_high_first k m) (bytes_high_first k n) (high_first_cmp k m n ∙ (rw e (same (n % 256 ^ k))))

-- The bytes of the number of some bytes are these bytes.
pub high_first_number : (bs : List ℕ) → AreBytes bs → bytes_high_first (length bs) (number bs) ≡ bs
high_first_number [] h = refl
high_first_number (b ∷ bs) h =
    let k : ℕ = length bs in
    let v : ℕ = number bs in
    let l : v < 256 ^ k = number_below bs (tail_bytes b bs h) in
    let first : byte_at k (b * 256 ^ k + v) ≡ b =
    byte_is k (b * 256 ^ k + v) ∙ ap (λ n. n % 256) (div-mul-add b (256 ^ k) v l) ∙ mod-eq_of_lt (head_byte b bs h) in
    let rest : bytes_high_first k (b * 256 ^ k + v) ≡ bs =
    same_low k (b * 256 ^ k + v) v (mod-mul-add b (256 ^ k) v l ∙ sym (mod-eq_of_lt l)) ∙ high_first_number bs (tail_bytes b bs h) in
    λ i. first i ∷ rest i

-- Digits are the digits of their number.
pub digits_number : (bs : List ℕ) → AreDigits bs → digits (number bs) ≡ bs
digits_number [] h = digits_zero
digits_number (b ∷ bs) h =
    digits_of (length bs) (number (b ∷ bs)) (omega (arith, h.1)) (omega (arith, mul-le-mul_left {m = 1} {n = b} (256 ^ length bs) h.0))
    (number_below (b ∷ bs) h.3) ∙ high_first_number (b ∷ bs) h.3

seven_more : (b k v : ℕ) → k ≡ 7 → b < 128 → v < 256 ^ k → b * 256 ^ k + v < 2 ^ 63
seven_more b k v e h l =
    let w : v < 256 ^ 7 = subst (λ (x : ℕ). v < 256 ^ x) e l in
    subst (λ (x : ℕ). b * 256 ^ x + v < 2 ^ 63) (sym e) (omega arith)

-- The number of digits is below 2 ^ 63.
pub number_word : (bs : List ℕ) → AreDigits bs → number bs < 2 ^ 63
number_word [] h = omega arith
number_word (b ∷ bs) h = ⊎_elim
    (λ s.
    let p : 256 ^ length (b ∷ bs) ≤ 256 ^ 7 = pow-le-pow_right {n = 256} (omega arith) {i = length (b ∷ bs)} {j = 7} (omega (arith, s)) in
    omega (arith, number_below (b ∷ bs) h.3))
    (λ s. let e : length bs ≡ 7 = omega (arith, s, h.1) in seven_more b (length bs) (number bs) e (h.2 e) (number_below bs (tail_bytes b bs h.3)))
    (cases_lt (length bs) 7)

top_of_eight : (k n : ℕ) → n < 2 ^ 63 → k ≡ 7 → byte_at k n < 128
top_of_eight k n h e = subst (λ (x : ℕ). byte_at x n < 128) (sym e) (omega arith)

-- The digits of a number below 2 ^ 63 are digits as the grammar says.
pub are_digits : (n : ℕ) → n < 2 ^ 63 → AreDigits (digits n)
are_digits zero h = subst AreDigits (sym digits_zero) tt
are_digits (suc m) h =
    let c = byte_count (suc m) (omega arith) (omega arith) in
    let k : ℕ = c.0 in
    let n : ℕ = suc m in
    let d : AreDigits (byte_at k n ∷ bytes_high_first k n) = (
      top_byte k n c.2.low c.2.high,
      omega (arith, length_high_first k n, c.1),
      (λ e. top_of_eight k n h (omega (arith, length_high_first k n))),
      each_byte (bytes_high_first (suc k) n) (high_bytes (suc k) n),
    ) in
    subst AreDigits (sym (digits_of k n c.1 c.2.low c.2.high)) d
