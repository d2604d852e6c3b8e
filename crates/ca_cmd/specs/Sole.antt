-- The one value for which something holds.
use Rattle.std.specs.Prelude.{◌≡◌}
use Rattle.std.specs.Coded.{Coded, Coded-set, ×_prop, Π_prop, →_prop}
use mathlib.Core.HLevel.{Σ_prop_path}
use mathlib.Core.Logic.{∥∥₁_elim, ∥∥₁_prop}

-- It holds for this value, and for no other one.
abbrev pub HoldsOnce : (A : Type 0) → (A → Type 0) → A → Type 0
HoldsOnce A Holds x = ∥ Holds x ∥₁ × ((y : A) → Holds y → y ≡ x)

-- the one value for which it holds
abbrev pub Sole : (A : Type 0) → (A → Type 0) → Type 0
Sole A Holds = (x : A) × HoldsOnce A Holds x

once_prop : {A : Type 0} (Holds : A → Type 0) → Coded A → (x : A) → IsProp (HoldsOnce A Holds x)
once_prop {A} Holds code x = ×_prop {A = ∥ Holds x ∥₁} {B = (y : A) → Holds y → y ≡ x} ∥∥₁_prop (Π_prop (λ (y : A). →_prop (Coded-set code y x)))

one_value : {A : Type 0} (Holds : A → Type 0) → Coded A → (x y : A) → HoldsOnce A Holds x → HoldsOnce A Holds y → x ≡ y
one_value Holds code x y p q = ∥∥₁_elim p.0 (Coded-set code x y) (q.1 x)

pub Sole-prop : {A : Type 0} (Holds : A → Type 0) → Coded A → IsProp (Sole A Holds)
Sole-prop Holds code x y = Σ_prop_path (once_prop Holds code) (one_value Holds code x.0 y.0 x.1 y.1)
