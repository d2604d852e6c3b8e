-- The bytes of an integer's code are the lowest ones of its two's complement.
use Rattle.std.proofs.Common.{◌≡◌, ℕ, zero, suc, ◌≤◌, ◌<◌, ◌+◌, ◌-◌, ◌*◌, ◌%◌, ◌^◌, ℤ, pos, negsuc, List, [], ◌∷◌, length, take, drop, arith, refl, sym, ◌∙◌, ap, subst, take_all, length-drop, ⊎_elim}
use Rattle.std.proofs.lemmas.Bool.{cases_lt}
use Rattle.std.proofs.lemmas.List.{drop-map}
use Rattle.std.proofs.Math.Nat.{mod-lt, pow-suc, mul-le-mul_left}
use Rattle.std.specs.Int.{to_be_bytes, bytes_high_first, byte_at, w64, cast_unsigned}
use Rattle.ca_term.proofs.Numbers.{length_high_first, base_pos, split_high}
use Rattle.ca_term.proofs.Digits.{trim_zero, trim_suc, trim_nil, trim_shorter, digits_shorter, length_complement}
use Rattle.ca_term.proofs.IntCodes.{IsWord}
use Rattle.ca_term.specs.Code.{trim, digits, complement, int_code}
use Rattle.ca_order.specs.IntTag.{int_tag}

-- what is trimmed goes from the front
trim_drop : (bs : List ℕ) → trim bs ≡ drop (length bs - length (trim bs)) bs
trim_drop [] = rw trim_nil refl
trim_drop (zero ∷ bs) =
    let e : length (0 ∷ bs) - length (trim (0 ∷ bs)) ≡ suc (length bs - length (trim bs)) = omega (arith, ap length (trim_zero bs), trim_shorter bs) in
    trim_zero bs ∙ trim_drop bs ∙ sym (ap (λ k. drop k (0 ∷ bs)) e)
trim_drop (suc b ∷ bs) =
    let e : length (suc b ∷ bs) - length (trim (suc b ∷ bs)) ≡ 0 = omega (arith, ap length (trim_suc b bs)) in
    trim_suc b bs ∙ sym (ap (λ k. drop k (suc b ∷ bs)) e)

digits_drop : (n : ℕ) → digits n ≡ drop (8 - length (digits n)) (to_be_bytes w64 n)
unfolding digits
digits_drop n = trim_drop (to_be_bytes w64 n)

sum_is : (s p q : ℕ) → s * p + q ≡ 256 * p → 0 < q → q < 2 * p → (s ≡ 255) × (q ≡ p)
sum_is s p q e h k = ⊎_elim
    (λ l. absurd (omega (arith, mul-le-mul_left {m = s} {n = 254} p (omega (arith, l)))))
    (λ l. ⊎_elim
    (λ m. let is : s ≡ 255 = omega (arith, l, m) in let f : 255 * p + q ≡ 256 * p = subst (λ (x : ℕ). x * p + q ≡ 256 * p) is e in (is, omega arith))
    (λ m. absurd (omega (arith, mul-le-mul_left {m = 256} {n = s} p m)))
    (cases_lt s 256))
    (cases_lt s 255)

-- the lowest bytes of 256 ^ k - 1 - n are those of n complemented
complement_bytes : (k m n : ℕ) → m % 256 ^ k + n % 256 ^ k + 1 ≡ 256 ^ k → bytes_high_first k m ≡ complement (bytes_high_first k n)
unfolding complement
complement_bytes zero m n e = refl
complement_bytes (suc k) m n e =
    let p : 0 < 256 ^ k = base_pos k in
    let r : (byte_at k m + byte_at k n) * 256 ^ k + (m % 256 ^ k + n % 256 ^ k + 1) ≡ 256 * 256 ^ k =
    omega (arith, split_high k m, split_high k n, pow-suc 256 k) in
    let s = sum_is (byte_at k m + byte_at k n) (256 ^ k) (m % 256 ^ k + n % 256 ^ k + 1) r (omega arith) (omega (arith, mod-lt m p, mod-lt n p)) in
    let first : byte_at k m ≡ 255 - byte_at k n = omega (arith, s.0) in
    let rest : bytes_high_first k m ≡ complement (bytes_high_first k n) = complement_bytes k m n s.1 in
    λ i. first i ∷ rest i

lowest : (len k : ℕ) (bytes ds : List ℕ) → k ≡ len → len ≤ 8 → length bytes ≡ 8 → ds ≡ drop (8 - len) bytes → ds ≡ take (8 - (8 - k)) (drop (8 - k) bytes)
lowest len k bytes ds e l h d =
    let a : take (8 - (8 - len)) (drop (8 - len) bytes) ≡ drop (8 - len) bytes =
    take_all (8 - (8 - len)) (drop (8 - len) bytes) (omega (arith, length-drop (8 - len) bytes)) in
    d ∙ sym a ∙ ap (λ x. take (8 - (8 - x)) (drop (8 - x) bytes)) (sym e)

turned : (k : ℕ) (bs : List ℕ) → complement (drop k bs) ≡ drop k (complement bs)
unfolding complement
turned k bs = sym (drop-map (λ b. 255 - b) k bs)

-- An integer's code is its tag and the lowest bytes of its two's complement.
pub int_parts : (n : ℤ) (len : ℕ) → IsWord n → len ≡ length (int_code n)
    → int_code n ≡ int_tag n (len - 1) ∷ take (8 - (8 - (len - 1))) (drop (8 - (len - 1)) (to_be_bytes w64 (cast_unsigned w64 n)))
unfolding int_code
int_parts (pos n) len h e =
    let l : len - 1 ≡ length (digits n) = omega (arith, e) in
    let rest = lowest (length (digits n)) (len - 1) (to_be_bytes w64 n) (digits n) l (digits_shorter n) (length_high_first 8 n) (digits_drop n) in
    ap (λ x. (0x20 + x) ∷ digits n) (sym l) ∙ (λ i. (0x20 + (len - 1)) ∷ rest i)
int_parts (negsuc m) len h e =
    let l : len - 1 ≡ length (digits m) = omega (arith, e, length_complement (digits m)) in
    let low : to_be_bytes w64 (2 ^ 64 - suc m) ≡ complement (to_be_bytes w64 m) = complement_bytes 8 (2 ^ 64 - suc m) m (omega arith) in
    let d : complement (digits m) ≡ drop (8 - length (digits m)) (to_be_bytes w64 (2 ^ 64 - suc m)) =
    ap complement (digits_drop m) ∙ turned (8 - length (digits m)) (to_be_bytes w64 m) ∙ ap (drop (8 - length (digits m))) (sym low) in
    let rest = lowest (length (digits m)) (len - 1) (to_be_bytes w64 (2 ^ 64 - suc m)) (complement (digits m)) l (digits_shorter m)
    (length_high_first 8 (2 ^ 64 - suc m)) d in
    ap (λ x. (0x1f - x) ∷ complement (digits m)) (sym l) ∙ (λ i. (0x1f - (len - 1)) ∷ rest i)
