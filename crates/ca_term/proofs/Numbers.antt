-- Numbers compare as their bytes do, the highest first.
use Rattle.std.proofs.Common.{◌≡◌, ℕ, ◌≤◌, ◌<◌, ◌+◌, ◌*◌, ◌/◌, ◌%◌, ◌^◌, suc, zero, length, arith, refl, sym, ◌∙◌}
use Rattle.std.proofs.Math.Nat.{mul-le-mul_left, pow-suc, mod-lt, mod-eq_of_lt, div-eq_of_lt}
use Rattle.std.proofs.Math.Arith.{mod-mul}
use Rattle.std.specs.declared.cmp.Ordering.{Ordering}
use Rattle.std.specs.declared.cmp.Ordering.TheVariants.{Less, Equal, Greater}
use Rattle.std.specs.Ordering.{ordering_then, nat_cmp}
use Rattle.std.specs.Cmp.{nat_cmp_is, ranked}
use Rattle.std.specs.Cmp.Lexicographic.{slice_cmp}
use Rattle.std.specs.Int.{bytes_high_first, byte_at}

-- A lower number compares as less.
pub less : (x y : ℕ) → x < y → nat_cmp x y ≡ Less
less x y h = sym (nat_cmp_is x y Less h)

-- A higher number compares as greater.
pub greater : (x y : ℕ) → y < x → nat_cmp x y ≡ Greater
greater x y h = sym (nat_cmp_is x y Greater h)

-- A number compares as equal to itself.
pub same : (x : ℕ) → nat_cmp x x ≡ Equal
same x = sym (nat_cmp_is x x Equal refl)

shifted_by : (c r s : ℕ) (o : Ordering) → o ≡ nat_cmp r s → nat_cmp (c + r) (c + s) ≡ o
shifted_by c r s Less e = let h : r < s = ranked r s Less e in less (c + r) (c + s) (omega arith)
shifted_by c r s Equal e = let h : r ≡ s = ranked r s Equal e in rw h (same (c + s))
shifted_by c r s Greater e = let h : s < r = ranked r s Greater e in greater (c + r) (c + s) (omega arith)

weighted_by : (p a b r s : ℕ) (o : Ordering) → r < p → s < p → o ≡ nat_cmp a b → nat_cmp (a * p + r) (b * p + s) ≡ ordering_then o (nat_cmp r s)
weighted_by p a b r s Less h k e = let l : a < b = ranked a b Less e in less (a * p + r) (b * p + s) (omega (arith, mul-le-mul_left {m = suc a} {n = b} p l))
weighted_by p a b r s Equal h k e = let l : a ≡ b = ranked a b Equal e in rw l (shifted_by (b * p) r s (nat_cmp r s) refl)
weighted_by p a b r s Greater h k e =
    let l : b < a = ranked a b Greater e in greater (a * p + r) (b * p + s) (omega (arith, mul-le-mul_left {m = suc b} {n = a} p l))

-- Numbers of two parts compare by the high part, and then by the low one.
pub weighted : (p a b r s : ℕ) → r < p → s < p → nat_cmp (a * p + r) (b * p + s) ≡ ordering_then (nat_cmp a b) (nat_cmp r s)
weighted p a b r s h k = weighted_by p a b r s (nat_cmp a b) h k refl

-- A power of 256 is above 0.
pub base_pos : (k : ℕ) → 0 < 256 ^ k
base_pos zero = omega arith
base_pos (suc k) = omega (arith, pow-suc 256 k, base_pos k)

-- The byte at a place is what division by that power of 256 leaves.
pub byte_is : (k n : ℕ) → byte_at k n ≡ n / 256 ^ k % 256
byte_is zero n = grind arith
byte_is (suc k) n = refl

-- The lowest bytes of a number are its byte at a place and the bytes below it.
pub split_high : (k n : ℕ) → n % 256 ^ suc k ≡ byte_at k n * 256 ^ k + n % 256 ^ k
split_high k n =
    rw (byte_is k n) (let p : 0 < 256 ^ k = base_pos k in let e : 256 ^ suc k ≡ 256 * 256 ^ k = omega (arith, pow-suc 256 k) in rw e
    (mod-mul n (omega arith) p))

-- the last k bytes of two numbers
pub high_first_cmp : (k m n : ℕ) → slice_cmp nat_cmp (bytes_high_first k m) (bytes_high_first k n) ≡ nat_cmp (m % 256 ^ k) (n % 256 ^ k)
high_first_cmp zero m n = nat_cmp_is (m % 1) (n % 1) Equal (omega arith)
high_first_cmp (suc k) m n =
    let p : 0 < 256 ^ k = base_pos k in
    rw (
      split_high k m,
      split_high k n,
      weighted (256 ^ k) (byte_at k m) (byte_at k n) (m % 256 ^ k) (n % 256 ^ k) (mod-lt m p) (mod-lt n p),
      high_first_cmp k m n,
    )

-- So many bytes are that many.
pub length_high_first : (k n : ℕ) → length (bytes_high_first k n) ≡ k
length_high_first zero n = refl
length_high_first (suc k) n = grind (arith, length_high_first k n)

-- the first of k + 1 bytes of a number that needs them all isn't zero, and of one that doesn't is zero
pub top_byte : (k n : ℕ) → 256 ^ k ≤ n → n < 256 ^ suc k → 0 < byte_at k n
top_byte k n h b =
    let p : 0 < 256 ^ k = base_pos k in
    let s : n % 256 ^ suc k ≡ byte_at k n * 256 ^ k + n % 256 ^ k = split_high k n in
    let m : n % 256 ^ suc k ≡ n = mod-eq_of_lt b in
    let r : n % 256 ^ k < 256 ^ k = mod-lt n p in
    not_none (byte_at k n) (256 ^ k) (n % 256 ^ k) n (sym m ∙ s) r h
  where
    not_none : (b p r n : ℕ) → n ≡ b * p + r → r < p → p ≤ n → 0 < b
    not_none zero p r n e h k = absurd (omega arith)
    not_none (suc b) p r n e h k = omega arith

-- Above its bytes a number has zero bytes.
pub no_top_byte : (k n : ℕ) → n < 256 ^ k → byte_at k n ≡ 0
no_top_byte k n h = rw (byte_is k n) (rw (div-eq_of_lt {n = n} {m = 256 ^ k} h) refl)
