-- Keys that programs and tests above make.
use Rattle.std.proofs.Common.{ℕ, zero, suc, ◌<◌, ◌∷◌, [], arith}
use Rattle.ca_term.specs.Tree.{AreBytes}
use Rattle.ca_term.specs.Grammar.{IsCodeWithin, FromZero}

-- A number of four bytes, the first of which is 1.
pub key_code : (x y z : ℕ) → x < 256 → y < 256 → z < 256 → IsCodeWithin 191 (0x24 ∷ 1 ∷ x ∷ y ∷ z ∷ [])
key_code x y z a b c = FromZero 190 (1 ∷ x ∷ y ∷ z ∷ []) (omega arith, omega arith, (λ e. absurd (omega (arith, e))), bytes)
  where
    bytes : AreBytes (1 ∷ x ∷ y ∷ z ∷ [])
    bytes zero = omega arith
    bytes (suc zero) = a
    bytes (suc (suc zero)) = b
    bytes (suc (suc (suc zero))) = c
    bytes (suc (suc (suc (suc k)))) = omega arith
