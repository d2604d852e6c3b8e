-- What stands behind a zero byte in escaped bytes.
use Rattle.std.specs.Prelude.{◌≡◌, ℕ, List, ◌∷◌}
use Rattle.ca_order.specs.declared.zeros.Escape.{Escape}
use Rattle.ca_order.specs.declared.zeros.Escape.TheVariants.{End, Zero, Neither}

abbrev pub IsEscape : List ℕ → Escape → Type 0
IsEscape behind (End rest) = behind ≡ 0 ∷ rest.now
IsEscape behind (Zero rest) = behind ≡ 0xff ∷ rest.now
IsEscape behind Neither = (b : ℕ) (rest : List ℕ) → behind ≡ b ∷ rest → (b ≡ 0 → ⊥) × (b ≡ 0xff → ⊥)
