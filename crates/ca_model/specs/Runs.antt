-- Runs: the objects of one state from a lower edge up to a cut, handed out one by one.
use Rattle.std.specs.Prelude.{◌≡◌, ◌⊎◌, ℕ, zero, suc, ◌≤◌, Bool, true, false, List, [], ◌∷◌, Some}
use denote.Ref.{Bor}
use denote.Param.Members.{Shared}
use Rattle.ca_model.specs.Edges.{Bound, IsLower}
use Rattle.ca_model.specs.Event.{Range}
use Rattle.ca_model.specs.Known.{Known, Meets}
use Rattle.ca_model.specs.Function.{MaySay}

-- A run is open.
abbrev pub IsOpen : Known → Type 0
IsOpen a = (left : List (List ℕ)) × (a.run ≡ Some left)

-- The next object of the open run is these bytes and was handed out, or the run is at its end and there are no bytes.
abbrev pub HandedOut : Known → Known → Bool → List ℕ → Type 0
HandedOut a b true into = (left : List (List ℕ)) × (a.run ≡ Some (into ∷ left)) × (b.run ≡ Some left)
HandedOut a b false into = (a.run ≡ Some []) × (b.run ≡ Some []) × (into ≡ [])

module _ {F : Type 0} (g : Shared F (Bor (List ℕ) × Unit {0}) Bool) (f : F) where
  -- The function may answer true on each of at least so many of these objects.
  abbrev pub HasCounted : ℕ → List (List ℕ) → Type 0
  HasCounted zero objects = Unit {0}
  HasCounted (suc n) [] = ⊥
  HasCounted (suc n) (o ∷ objects) = (MaySay g f o true × HasCounted n objects) ⊎ HasCounted (suc n) objects

  -- How far a run reaches: up to its upper edge; or less far, and then so many of its objects were wanted, and counted.
  abbrev pub Reaches : Bound → Bound → ℕ → List (List ℕ) → Bool → Type 0
  Reaches hi cut want objects true = cut ≡ hi
  Reaches hi cut want objects false = IsLower cut hi × (1 ≤ want) × HasCounted want objects

  -- A run of one state is open, and nothing of it was handed out yet.
  pub record Opens (a b : Known) (lo hi : Bound) (want : ℕ) (whole : Bool) : Type 0 where
    pub cut : Bound
    pub objects : List (List ℕ)
    pub met : Meets a b (Range lo hi cut objects)
    pub run : b.run ≡ Some objects
    pub reaches : Reaches hi cut want objects whole
