-- Codes of integers compare as the integers do, and before every other code.
use Rattle.std.proofs.Common.{◌≡◌, ℕ, ◌≤◌, ◌<◌, ◌+◌, ◌-◌, ◌^◌, List, ◌∷◌, ◌++◌, length, arith, refl, sym, ◌∙◌, ap, ⊎_elim, ℤ, pos, negsuc}
use Rattle.std.proofs.lemmas.Int.{ints}
use Rattle.std.specs.declared.cmp.Ordering.{Ordering}
use Rattle.std.specs.declared.cmp.Ordering.TheVariants.{Less, Equal, Greater}
use Rattle.std.specs.Ordering.{ordering_then, nat_cmp, int_cmp}
use Rattle.std.specs.Cmp.{ranked, int_cmp_is}
use Rattle.std.specs.Prelude.{FitsSigned}
use Rattle.std.specs.Int.{w64}
use Rattle.ca_term.proofs.Numbers.{same}
use Rattle.ca_term.proofs.Bytes.{bytes_cmp, head_less, head_greater, seam}
use Rattle.ca_term.proofs.Digits.{digits_shorter, length_complement}
use Rattle.ca_term.proofs.DigitOrder.{complement_cmp, digits_bytes, digits_tell}
use Rattle.ca_term.specs.Code.{digits, complement, int_code}

int_pos : (m n : ℕ) → int_cmp (pos m) (pos n) ≡ nat_cmp m n
int_pos m n = by (nat_cmp m n) refl
  where
    by : (o : Ordering) → o ≡ nat_cmp m n → int_cmp (pos m) (pos n) ≡ o
    by Less e = let l : m < n = ranked m n Less e in sym (int_cmp_is (pos m) (pos n) Less (omega (arith, ints)))
    by Equal e = let l : m ≡ n = ranked m n Equal e in sym (int_cmp_is (pos m) (pos n) Equal (ap pos l))
    by Greater e = let l : n < m = ranked m n Greater e in sym (int_cmp_is (pos m) (pos n) Greater (omega (arith, ints)))

int_neg : (m n : ℕ) → int_cmp (negsuc m) (negsuc n) ≡ nat_cmp n m
int_neg m n = by (nat_cmp n m) refl
  where
    by : (o : Ordering) → o ≡ nat_cmp n m → int_cmp (negsuc m) (negsuc n) ≡ o
    by Less e = let l : n < m = ranked n m Less e in sym (int_cmp_is (negsuc m) (negsuc n) Less (omega (arith, ints)))
    by Equal e = let l : n ≡ m = ranked n m Equal e in sym (int_cmp_is (negsuc m) (negsuc n) Equal (sym (ap negsuc l)))
    by Greater e = let l : m < n = ranked n m Greater e in sym (int_cmp_is (negsuc m) (negsuc n) Greater (omega (arith, ints)))

abbrev pub IsWord : ℤ → Type 0
IsWord (pos n) = n < 2 ^ 63
IsWord (negsuc m) = m < 2 ^ 63

-- An integer of 64 bits is below 2 ^ 63, or -m - 1 for such an m.
pub word : (n : ℤ) → FitsSigned w64 n → IsWord n
word (pos n) h = h.sfits
word (negsuc m) h = h.sfits

-- Codes of integers compare as the integers do, and then what stands behind them.
pub int_code_cmp : (m n : ℤ) (xs ys : List ℕ) → IsWord m → IsWord n
    → bytes_cmp (int_code m ++ xs) (int_code n ++ ys) ≡ ordering_then (int_cmp m n) (bytes_cmp xs ys)
unfolding int_code
int_code_cmp (pos m) (pos n) xs ys h k =
    ⊎_elim
    (λ t. rw (int_pos m n, t.1) (head_less (32 + length (digits m)) (32 + length (digits n)) (digits m ++ xs) (digits n ++ ys) (omega (arith, t.0))))
    (⊎_elim
    (λ t. rw (int_pos m n, t.1) (head_greater (32 + length (digits m)) (32 + length (digits n)) (digits m ++ xs) (digits n ++ ys) (omega (arith, t.0))))
    (λ t. rw (int_pos m n, t.0, same (32 + length (digits n)), ← t.1) (seam (digits m) (digits n) xs ys t.0)))
    (digits_tell m n (omega arith) (omega arith))
int_code_cmp (pos m) (negsuc n) xs ys h k =
    head_greater (32 + length (digits m)) (31 - length (digits n)) (digits m ++ xs) (complement (digits n) ++ ys) (omega arith)
int_code_cmp (negsuc m) (pos n) xs ys h k =
    head_less (31 - length (digits m)) (32 + length (digits n)) (complement (digits m) ++ xs) (digits n ++ ys) (omega arith)
int_code_cmp (negsuc m) (negsuc n) xs ys h k =
    ⊎_elim
    (λ t. rw (int_neg m n, t.1) (head_less (31 - length (digits m)) (31 - length (digits n)) (complement (digits m) ++ xs) (complement (digits n) ++ ys)
    (omega (arith, t.0, digits_shorter m, digits_shorter n))))
    (⊎_elim
    (λ t. rw (int_neg m n, t.1) (head_greater (31 - length (digits m)) (31 - length (digits n)) (complement (digits m) ++ xs) (complement (digits n) ++ ys)
    (omega (arith, t.0, digits_shorter m, digits_shorter n))))
    (λ t. let l : length (digits m) ≡ length (digits n) = sym t.0 in
    rw (int_neg m n, l, same (31 - length (digits n)), ← t.1, ← complement_cmp (digits m) (digits n) (digits_bytes m) (digits_bytes n) l)
    (seam (complement (digits m)) (complement (digits n)) xs ys (length_complement (digits m) ∙ l ∙ sym (length_complement (digits n))))))
    (digits_tell n m (omega arith) (omega arith))

-- the opening byte of a kind
pub tag_of_int : (n : ℤ) → (b : ℕ) × (bs : List ℕ) × (int_code n ≡ b ∷ bs) × (b < 0x30)
unfolding int_code
tag_of_int (pos n) = (0x20 + length (digits n), digits n, refl, omega (arith, digits_shorter n))
tag_of_int (negsuc m) = (0x1f - length (digits m), complement (digits m), refl, omega arith)

-- The code of an integer comes before the codes of all other kinds.
pub int_first : (n : ℤ) (c : ℕ) (xs ys : List ℕ) → 0x30 ≤ c → bytes_cmp (int_code n ++ xs) (c ∷ ys) ≡ Less
int_first n c xs ys h = let t = tag_of_int n in rw t.2 (head_less t.0 c (t.1 ++ xs) ys (omega (arith, t.3)))

-- The codes of all other kinds come behind the code of an integer.
pub int_last : (n : ℤ) (c : ℕ) (xs ys : List ℕ) → 0x30 ≤ c → bytes_cmp (c ∷ ys) (int_code n ++ xs) ≡ Greater
int_last n c xs ys h = let t = tag_of_int n in rw t.2 (head_greater c t.0 ys (t.1 ++ xs) (omega (arith, t.3)))
