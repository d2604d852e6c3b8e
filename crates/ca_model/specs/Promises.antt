-- What a store promises of its calls beyond the trait.
use Rattle.std.specs.Prelude.{ℕ, Bool, List}
use denote.Ref.{Bor, MutBor}
use denote.Param.Members.{Shared}
use Rattle.arrayvec.specs.ArrayVec.{ArrayVec}
use Rattle.ca_model.specs.declared.outcome.Outcome.{Outcome}
use Rattle.ca_model.specs.declared.outcome.Changed.{Changed}
use Rattle.ca_model.specs.StoreMap.{Pair}
use Rattle.ca_model.specs.Edges.{Bound}

-- For each call a relation of what contracts see of the store before it and behind it. Beside these stand the call's budget, what it was
-- handed, what it came to, and the bytes that it wrote for its caller.
pub record Promises (Self : Type 0) : Type 1 where
  pub reserve : Self → Self → Type 0
  pub get : ℕ → Self → Self → List ℕ → Outcome Bool → List ℕ → Type 0
  pub put : ℕ → Self → Self → Pair → Outcome (Unit {0}) → Type 0
  pub put_new : ℕ → Self → Self → Pair → Outcome Bool → Type 0
  pub remove : ℕ → Self → Self → List ℕ → Outcome Bool → List ℕ → Type 0
  pub remove_if : {F : Type 0} → Shared F (Bor (List ℕ) × Unit {0}) Bool → F → ℕ → Self → Self → List ℕ → Outcome Changed → List ℕ → Type 0
  pub change : {F : Type 0} → Shared F (Bor (List ℕ) × (MutBor (ArrayVec ℕ) × (MutBor ℕ × Unit {0}))) (Bool
      × (MutBor (ArrayVec ℕ) × (MutBor ℕ × Unit {0}))) → F → ℕ → Self → Self → List ℕ → Outcome Changed → List ℕ → Type 0
  pub above : ℕ → Self → Self → Bound → Outcome Bool → List ℕ → Type 0
  pub below : ℕ → Self → Self → Bound → Outcome Bool → List ℕ → Type 0
  -- the lower and the upper edge, and how many objects are wanted
  pub range : ℕ → Self → Self → Bound → Bound → ℕ → Outcome Bool → Type 0
  pub found : Self → Self → Type 0
  pub close_run : Self → Self → Type 0
