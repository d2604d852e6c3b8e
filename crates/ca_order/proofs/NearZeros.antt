-- The first zero byte of bytes, found one by one.
use Rattle.std.proofs.Common.{◌≡◌, ℕ, zero, suc, ◌<◌, List, [], ◌∷◌, ◌++◌, length, take, drop, get_or, arith, refl, ap, subst, ◌∙◌, Option, None, Some}
use Rattle.std.specs.Prelude.{IfSome}
use Rattle.ca_order.specs.Zeros.{HasNoZero, IsZeroAt}

-- No zero byte is among none.
pub run_none : (bytes : List ℕ) → HasNoZero (take 0 bytes)
run_none bytes = tt

-- One more byte that isn't zero.
pub run_next : (bytes : List ℕ) (at d : ℕ) → at < length bytes → HasNoZero (take at bytes) → (get_or bytes at d ≡ 0 → ⊥) → HasNoZero (take (suc at) bytes)
run_next [] at d h r n = absurd (omega arith)
run_next (zero ∷ bs) zero d h r n = absurd (n refl)
run_next (suc b ∷ bs) zero d h r n = (omega arith, tt)
run_next (b ∷ bs) (suc at) d h r n = (r.0, run_next bs at d (omega arith) r.1 n)

get_same : (bytes : List ℕ) (at d e : ℕ) → at < length bytes → get_or bytes at d ≡ get_or bytes at e
get_same [] at d e h = absurd (omega arith)
get_same (b ∷ bs) zero d e h = refl
get_same (b ∷ bs) (suc at) d e h = get_same bs at d e (omega arith)

-- The first one that is zero.
pub zero_here : (bytes : List ℕ) (at d : ℕ) → at < length bytes → HasNoZero (take at bytes) → get_or bytes at d ≡ 0 → IsZeroAt bytes at
zero_here bytes at d h r e = record { within = h; zero_is = get_same bytes at 0 d h ∙ e; run = r }

taken_by : (n : ℕ) (bytes : List ℕ) (at : ℕ) → IsZeroAt (take n bytes) at → IsZeroAt bytes at
taken_by zero bytes at z = absurd (omega (arith, z.within))
taken_by (suc n) [] at z = absurd (omega (arith, z.within))
taken_by (suc n) (b ∷ bs) zero z = record { within = omega arith; zero_is = z.zero_is; run = tt }
taken_by (suc n) (b ∷ bs) (suc at) z =
    let r = taken_by n bs at (record { within = omega (arith, z.within); zero_is = z.zero_is; run = z.run.1 }) in
    record { within = omega (arith, r.within); zero_is = r.zero_is; run = (z.run.0, r.run) }

-- What stands among the first bytes of some stands among them.
pub zero_near : (bytes near : List ℕ) (n at : ℕ) → near ≡ take n bytes → IsZeroAt near at → IsZeroAt bytes at
zero_near bytes near n at e z = taken_by n bytes at (subst (λ (x : List ℕ). IsZeroAt x at) e z)

pub some_near : (bytes near : List ℕ) (n : ℕ) (r : Option ℕ) → near ≡ take n bytes → IfSome r (λ at. IsZeroAt near at) → IfSome r (λ at. IsZeroAt bytes at)
some_near bytes near n None e z = tt
some_near bytes near n (Some at) e z = zero_near bytes near n at e z

-- Bytes are those before the zero byte, and those behind it.
pub zero_parts : (bytes : List ℕ) (at : ℕ) → IsZeroAt bytes at → bytes ≡ take at bytes ++ 0 ∷ drop (suc at) bytes
zero_parts [] at z = absurd (omega (arith, z.within))
zero_parts (b ∷ bs) zero z = ap (λ (x : ℕ). x ∷ bs) z.zero_is
zero_parts (b ∷ bs) (suc at) z =
    ap (λ (x : List ℕ). b ∷ x) (zero_parts bs at (record { within = omega (arith, z.within); zero_is = z.zero_is; run = z.run.1 }))

-- Bytes looked at one after the other.
pub ruleset zero_places = (run_none, run_next, zero_here)
