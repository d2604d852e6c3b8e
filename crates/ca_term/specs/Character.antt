-- Where bytes stop to be a character.
use Rattle.std.specs.Prelude.{◌≡◌, ℕ, ◌≤◌, ◌<◌, ◌+◌, List, ◌∷◌, ◌++◌, length, take}
use Rattle.std.specs.Char.{IsScalar, encode_utf8}

-- The first `at` bytes begin a character in UTF-8 and are no whole one, and no character begins with one byte more of them.
pub record IsNoCharacter (bytes : List ℕ) (at : ℕ) : Type 0 where
  pub in_range : at ≤ length bytes
  pub char : ℕ
  pub is_scalar : IsScalar char
  pub next : ℕ
  pub rest : List ℕ
  pub begins : encode_utf8 char ≡ take at bytes ++ next ∷ rest
  pub no_longer : at < length bytes → (c : ℕ) (more : List ℕ) → IsScalar c → encode_utf8 c ≡ take (at + 1) bytes ++ more → ⊥
