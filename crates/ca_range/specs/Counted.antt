-- How many of some objects a function answers true on.
use Rattle.std.specs.Prelude.{◌≡◌, ◌⊎◌, ℕ, suc, Bool, true, false, List, [], ◌∷◌}
use denote.Ref.{Bor}
use denote.Param.Members.{Shared}
use Rattle.ca_model.specs.Function.{MaySay}

module _ {F : Type 0} (g : Shared F (Bor (List ℕ) × Unit {0}) Bool) (f : F) where
  -- Asked for each of these objects, the function may answer true so many times.
  abbrev pub IsCountOf : ℕ → List (List ℕ) → Type 0
  IsCountOf n [] = n ≡ 0
  IsCountOf n (o ∷ objects) = (MaySay g f o false × IsCountOf n objects) ⊎ ((m : ℕ) × (n ≡ suc m) × MaySay g f o true × IsCountOf m objects)
