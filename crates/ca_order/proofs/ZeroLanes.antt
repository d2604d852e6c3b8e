-- The first zero byte of bytes that are compared with zero at once.
use Rattle.std.proofs.Common.{◌≡◌, ℕ, zero, suc, ◌<◌, ◌%◌, ◌^◌, List, [], ◌∷◌, length, map, replicate, not, cond, eqb, Bool, false, ◌+◌, ne_eqb, arith, refl, ap, sym, subst, ◌∙◌, w8, w64}
use Rattle.std.proofs.lemmas.Simd.{bitmask_splat, trailing_mask_l}
use Rattle.std.specs.Int.{trailing_zeros}
use Rattle.std.specs.List.{prefix_len}
use Rattle.std.specs.Simd.Lanes.{zip2, mask_l, top}
use Rattle.ca_order.specs.Zeros.{IsZeroAt}

-- One bit for each byte, which tells whether it is zero.
abbrev zeros_of : List ℕ → ℕ
zeros_of bytes = mask_l (map (λ (x : ℕ). eqb x 0) bytes)

-- How many bytes come before the first zero byte.
abbrev before_zero : List ℕ → ℕ
before_zero bytes = prefix_len (λ (x : ℕ). not (eqb x 0)) bytes

next_zero : (b : ℕ) (bs : List ℕ) (at : ℕ) → 0 < b → IsZeroAt bs at → IsZeroAt (b ∷ bs) (suc at)
next_zero b bs at h z = record { within = omega (arith, z.within); zero_is = z.zero_is; run = (h, z.run) }

zero_first : (bytes : List ℕ) → 0 < zeros_of bytes → IsZeroAt bytes (before_zero bytes)
zero_first [] s = absurd (omega arith)
zero_first (zero ∷ bs) s = record { within = omega arith; zero_is = refl; run = tt }
zero_first (suc b ∷ bs) s =
    let f : eqb (suc b) 0 ≡ false = ne_eqb (suc b) 0 (λ e. absurd (omega (arith, e))) in
    let no : cond {A = ℕ} (eqb (suc b) 0) 1 0 ≡ 0 = ap (λ (x : Bool). cond {A = ℕ} x 1 0) f in
    let one : 1 + before_zero bs ≡ suc (before_zero bs) = omega arith in
    let place : before_zero (suc b ∷ bs) ≡ suc (before_zero bs) =
    ap (λ (x : Bool). cond {A = ℕ} (not x) (1 + before_zero bs) 0) f ∙ one in
    subst (λ (at : ℕ). IsZeroAt (suc b ∷ bs) at) (sym place)
    (next_zero (suc b) bs (before_zero bs) (omega arith) (zero_first bs (omega (arith, s, no))))

-- The lowest bit of the comparison is that of the first zero byte.
pub lowest_zero : (near : List ℕ) (m : ℕ) → length near ≡ 16
    → m ≡ mask_l (map (top 7) (zip2 (λ (a b : ℕ). cond (eqb a b) 255 0) near (replicate 16 0))) % 2 ^ 64 → (m ≡ 0 → ⊥)
    → IsZeroAt near (trailing_zeros w64 m)
lowest_zero near m long e some =
    let g : m ≡ zeros_of near = e ∙ bitmask_splat w8 eqb near 16 0 long (omega arith) in
    let n : 0 < zeros_of near = grind (arith, g, some) in
    let t : trailing_zeros w64 m ≡ before_zero near =
    ap (trailing_zeros w64) g ∙ trailing_mask_l (λ (x : ℕ). eqb x 0) 64 near (omega (arith, long)) n in
    subst (λ (k : ℕ). IsZeroAt near k) (sym t) (zero_first near n)
