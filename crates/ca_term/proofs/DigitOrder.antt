-- Numbers compare as their digits do: first by how many there are.
use Rattle.std.proofs.Common.{◌≡◌, ℕ, ◌<◌, ◌-◌, ◌/◌, ◌^◌, suc, zero, List, [], ◌∷◌, length, arith, refl, sym, ◌∙◌, ap, ◌⊎◌, inl, inr}
use Rattle.std.proofs.Math.Nat.{mod-lt, mod-eq_of_lt}
use Rattle.std.specs.declared.cmp.Ordering.{Ordering}
use Rattle.std.specs.declared.cmp.Ordering.TheVariants.{Less, Equal, Greater}
use Rattle.std.specs.Ordering.{ordering_then, nat_cmp}
use Rattle.std.specs.Cmp.{ranked}
use Rattle.std.specs.Int.{to_be_bytes, bytes_high_first, w64}
use Rattle.ca_term.proofs.Numbers.{less, greater, same, high_first_cmp, length_high_first}
use Rattle.ca_term.proofs.Bytes.{bytes_cmp}
use Rattle.ca_term.proofs.Digits.{trim_zero, trim_suc, trim_nil, trim_shorter}
use Rattle.ca_term.specs.Code.{trim, digits, complement}

-- what the lengths of two trimmed numbers say, and their bytes where the lengths agree
Trimmed : List ℕ → List ℕ → Type 0
Trimmed a b =
    ((length (trim a) < length (trim b)) × (bytes_cmp a b ≡ Less))
    ⊎ (((length (trim b) < length (trim a)) × (bytes_cmp a b ≡ Greater))
    ⊎ ((length (trim a) ≡ length (trim b)) × (bytes_cmp (trim a) (trim b) ≡ bytes_cmp a b)))

trimmed : (a b : List ℕ) → length a ≡ length b → Trimmed a b
unfolding Trimmed
trimmed [] [] e = rw trim_nil (inr (inr (refl, refl)))
trimmed [] (y ∷ b) e = absurd (omega arith)
trimmed (x ∷ a) [] e = absurd (omega arith)
trimmed (zero ∷ a) (zero ∷ b) e = rw (trim_zero a, trim_zero b) (let h : length a ≡ length b = omega arith in let t : Trimmed a b = trimmed a b h in t)
trimmed (zero ∷ a) (suc y ∷ b) e = rw (trim_zero a, trim_suc y b) (inl (omega (arith, trim_shorter a), rw (less 0 (suc y) (omega arith))))
trimmed (suc x ∷ a) (zero ∷ b) e = rw (trim_suc x a, trim_zero b) (inr (inl (omega (arith, trim_shorter b), rw (greater (suc x) 0 (omega arith)))))
trimmed (suc x ∷ a) (suc y ∷ b) e = rw (trim_suc x a, trim_suc y b) (inr (inr (e, refl)))

abbrev pub AllBytes : List ℕ → Type 0
AllBytes [] = Unit {0}
AllBytes (b ∷ bs) = (b < 256) × AllBytes bs

-- Each byte of a number is below 256.
pub high_bytes : (k n : ℕ) → AllBytes (bytes_high_first k n)
high_bytes zero n = tt
high_bytes (suc zero) n = (mod-lt n (omega arith), tt)
high_bytes (suc (suc k)) n = (mod-lt (n / 256 ^ suc k) (omega arith), high_bytes (suc k) n)

trim_bytes : (bs : List ℕ) → AllBytes bs → AllBytes (trim bs)
trim_bytes [] h = rw trim_nil tt
trim_bytes (zero ∷ bs) h = rw (trim_zero bs) (trim_bytes bs h.1)
trim_bytes (suc b ∷ bs) h = rw (trim_suc b bs) h

turned_by : (x y : ℕ) (o : Ordering) → x < 256 → y < 256 → o ≡ nat_cmp y x → nat_cmp (255 - x) (255 - y) ≡ o
turned_by x y Less h k e = let l : y < x = ranked y x Less e in less (255 - x) (255 - y) (omega arith)
turned_by x y Equal h k e = let l : y ≡ x = ranked y x Equal e in rw l (same (255 - x))
turned_by x y Greater h k e = let l : x < y = ranked y x Greater e in greater (255 - x) (255 - y) (omega arith)

-- Complements of as many bytes compare the other way.
pub complement_cmp : (p q : List ℕ) → AllBytes p → AllBytes q → length p ≡ length q → bytes_cmp (complement p) (complement q) ≡ bytes_cmp q p
unfolding complement
complement_cmp [] [] h k e = refl
complement_cmp [] (y ∷ q) h k e = absurd (omega arith)
complement_cmp (x ∷ p) [] h k e = absurd (omega arith)
complement_cmp (x ∷ p) (y ∷ q) h k e =
    let l : length p ≡ length q = omega arith in
    let i : bytes_cmp (complement p) (complement q) ≡ bytes_cmp q p = complement_cmp p q h.1 k.1 l in
    rw (turned_by x y (nat_cmp y x) h.0 k.0 refl) (ap (ordering_then (nat_cmp y x)) i)

high_cmp : (m n : ℕ) → m < 2 ^ 64 → n < 2 ^ 64 → bytes_cmp (to_be_bytes w64 m) (to_be_bytes w64 n) ≡ nat_cmp m n
high_cmp m n h k = high_first_cmp 8 m n ∙ (λ i. nat_cmp (mod-eq_of_lt {n = m} {m = 256 ^ 8} h i) (mod-eq_of_lt {n = n} {m = 256 ^ 8} k i))

-- Each digit is below 256.
pub digits_bytes : (n : ℕ) → AllBytes (digits n)
unfolding digits
digits_bytes n = trim_bytes (to_be_bytes w64 n) (high_bytes 8 n)

-- what the digits of two numbers say
pub digits_tell : (m n : ℕ) → m < 2 ^ 64 → n < 2 ^ 64 →
    ((length (digits m) < length (digits n)) × (nat_cmp m n ≡ Less))
    ⊎ (((length (digits n) < length (digits m)) × (nat_cmp m n ≡ Greater))
    ⊎ ((length (digits m) ≡ length (digits n)) × (bytes_cmp (digits m) (digits n) ≡ nat_cmp m n)))
unfolding digits Trimmed
digits_tell m n h k = rw (← high_cmp m n h k) (trimmed (to_be_bytes w64 m) (to_be_bytes w64 n) (length_high_first 8 m ∙ sym (length_high_first 8 n)))
