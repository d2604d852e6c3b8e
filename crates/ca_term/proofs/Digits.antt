-- The bytes of a number without leading zeros, and how many there are.
use Rattle.std.proofs.Common.{◌≡◌, ℕ, ◌≤◌, ◌<◌, ◌+◌, ◌-◌, ◌*◌, ◌/◌, ◌^◌, ◌==◌, suc, zero, List, [], ◌∷◌, length, arith, refl, sym, ◌∙◌, ap, false, ⊎_elim}
use Rattle.std.proofs.lemmas.Bool.{cases_lt}
use Rattle.std.proofs.lemmas.Bool.Decides.{nat_tests}
use Rattle.std.proofs.lemmas.List.{length-map}
use Rattle.std.proofs.lemmas.Nat.{leading_top, pow-add}
use Rattle.std.proofs.Math.Nat.{pow-le-pow_right, pow-suc}
use Rattle.std.specs.Int.{to_be_bytes, bytes_high_first, byte_at, w64}
use Rattle.std.specs.Int.Count.{count_leading_zeros, leading_of_zero}
use Rattle.ca_term.proofs.Numbers.{length_high_first, top_byte, no_top_byte}
use Rattle.ca_term.specs.Code.{trim, digits, complement}

-- A leading zero byte is trimmed.
pub trim_zero : (bs : List ℕ) → trim (0 ∷ bs) ≡ trim bs
unfolding trim
trim_zero bs = refl

-- A first byte above 0 ends the trimming.
pub trim_suc : (b : ℕ) (bs : List ℕ) → trim (suc b ∷ bs) ≡ suc b ∷ bs
unfolding trim
trim_suc b bs = let n : (suc b == 0) ≡ false = grind (arith, nat_tests) in rw n

-- Nothing is trimmed of no bytes.
pub trim_nil : trim [] ≡ []
unfolding trim
trim_nil = refl

-- Trimmed bytes are no more than before.
pub trim_shorter : (bs : List ℕ) → length (trim bs) ≤ length bs
trim_shorter [] = rw trim_nil (omega arith)
trim_shorter (zero ∷ bs) = rw (trim_zero bs) (omega (arith, trim_shorter bs))
trim_shorter (suc b ∷ bs) = rw (trim_suc b bs) (omega arith)

-- A complement has as many bytes.
pub length_complement : (p : List ℕ) → length (complement p) ≡ length p
unfolding complement
length_complement p = simp length-map

-- A number of 64 bits has at most eight digits.
pub digits_shorter : (n : ℕ) → length (digits n) ≤ 8
unfolding digits
digits_shorter n = omega (arith, trim_shorter (to_be_bytes w64 n), length_high_first 8 n)

trim_at_zero : (b : ℕ) (bs : List ℕ) → b ≡ 0 → trim (b ∷ bs) ≡ trim bs
trim_at_zero b bs e = rw e (trim_zero bs)

trim_at_other : (b : ℕ) (bs : List ℕ) → 0 < b → trim (b ∷ bs) ≡ b ∷ bs
trim_at_other zero bs h = absurd (omega arith)
trim_at_other (suc b) bs h = trim_suc b bs

-- a number of j + 1 bytes keeps the lowest j + 1 of them
pub trim_keeps : (k j n : ℕ) → j < k → 256 ^ j ≤ n → n < 256 ^ suc j → trim (bytes_high_first k n) ≡ bytes_high_first (suc j) n
trim_keeps zero j n l h b = absurd (omega arith)
trim_keeps (suc k) j n l h b = ⊎_elim
    (λ s.
    let p : 256 ^ suc j ≤ 256 ^ k = pow-le-pow_right {n = 256} (omega arith) {i = suc j} {j = k} (omega (arith, s)) in
    let t : n < 256 ^ k = omega arith in
    trim_at_zero (byte_at k n) (bytes_high_first k n) (no_top_byte k n t) ∙ trim_keeps k j n s h b)
    (λ s.
    let e : k ≡ j = omega (arith, s, l) in
    let w : trim (bytes_high_first (suc j) n) ≡ bytes_high_first (suc j) n = trim_at_other (byte_at j n) (bytes_high_first j n) (top_byte j n h b) in
    rw e w)
    (cases_lt j k)

trim_none : (k : ℕ) → trim (bytes_high_first k 0) ≡ []
trim_none zero = trim_nil
trim_none (suc k) =
    trim_at_zero (byte_at k 0) (bytes_high_first k 0)
    (no_top_byte k 0 (let p : 1 ≤ 256 ^ k = pow-le-pow_right {n = 256} (omega arith) {i = 0} {j = k} (omega arith) in omega arith)) ∙ trim_none k

-- a number of j + 1 bytes has these digits
pub digits_of : (j n : ℕ) → j < 8 → 256 ^ j ≤ n → n < 256 ^ suc j → digits n ≡ bytes_high_first (suc j) n
unfolding digits
digits_of j n l h b = trim_keeps 8 j n l h b

-- The number 0 has no digits.
pub digits_zero : digits 0 ≡ []
unfolding digits
digits_zero = trim_none 8

bytes_bits : (k : ℕ) → 256 ^ k ≡ 2 ^ (8 * k)
bytes_bits zero = refl
bytes_bits (suc k) =
    let e : 8 * suc k ≡ 8 * k + 8 = omega arith in
    rw (e, pow-add 2 (8 * k) 8, pow-suc 256 k, bytes_bits k)

-- how many bytes a number has: 256 ^ count is at most the number, and 256 ^ (count + 1) above it
pub record HasBytes (n count : ℕ) : Type 0 where
  pub low : 256 ^ count ≤ n
  pub high : n < 256 ^ suc count

-- by its leading zeros
pub byte_count : (n : ℕ) → 0 < n → n < 2 ^ 64 → (count : ℕ) × (count < 8) × HasBytes n count × ((71 - count_leading_zeros 64 n) / 8 ≡ suc count)
byte_count n p h =
    let t = leading_top 64 n p h in
    let j : ℕ = t.0 in
    let q : ℕ = j / 8 in
    let low : 2 ^ (8 * q) ≤ 2 ^ j = pow-le-pow_right {n = 2} (omega arith) {i = 8 * q} {j = j} (omega arith) in
    let high : 2 ^ suc j ≤ 2 ^ (8 * suc q) = pow-le-pow_right {n = 2} (omega arith) {i = suc j} {j = 8 * suc q} (omega arith) in
    (q, omega (arith, t.1), record { low = omega (arith, bytes_bits q, t.2); high = omega (arith, bytes_bits (suc q), t.3) }, omega (arith, t.1))

-- how many bytes a number of 64 bits has, by its leading zeros
pub length_digits : (n : ℕ) → n < 2 ^ 64 → length (digits n) ≡ (71 - count_leading_zeros 64 n) / 8
length_digits zero h = rw (digits_zero, leading_of_zero 64) refl
length_digits (suc m) h =
    let c = byte_count (suc m) (omega arith) h in
    ap length (digits_of c.0 (suc m) c.1 c.2.low c.2.high) ∙ length_high_first (suc c.0) (suc m) ∙ sym c.3
