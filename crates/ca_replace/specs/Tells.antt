-- Calls on a key's object, as events, given their answers and the object.
use Rattle.std.specs.Prelude.{◌≡◌, ℕ, Bool, true, false, List, [], None, Some}
use denote.Ref.{Bor, MutBor}
use denote.Param.Members.{Shared}
use Rattle.arrayvec.specs.ArrayVec.{ArrayVec}
use Rattle.ca_model.specs.declared.outcome.Changed.{Changed}
use Rattle.ca_model.specs.declared.outcome.Changed.TheVariants as changed
use Rattle.ca_model.specs.Event.{Event, Get, Remove, Change}
use Rattle.ca_model.specs.Function.{MayLeave, MaySay}

-- The call removed the object, or there was none.
abbrev pub Removes : List ℕ → Bool → List ℕ → Event → Type 0
Removes key true old event = event ≡ Remove key (Some old)
Removes key false old event = (event ≡ Remove key None) × (old ≡ [])

module _ {F : Type 0} (g : Shared F (Bor (List ℕ) × (MutBor (ArrayVec ℕ) × (MutBor ℕ × Unit {0}))) (Bool × (MutBor (ArrayVec ℕ) × (MutBor ℕ × Unit {0}))))
    (f : F) (key : List ℕ) where
  -- The call put what the function wrote in the place of the object, or the function left it, or there was none.
  abbrev pub Alters : Changed → List ℕ → Event → Type 0
  Alters changed.Absent old event = (event ≡ Change key None None) × (old ≡ [])
  Alters changed.Kept old event = ((w : List ℕ) × (at : ℕ) × MayLeave g f old false w at) × (event ≡ Change key (Some old) None)
  Alters changed.Put old event = (w : List ℕ) × (at : ℕ) × MayLeave g f old true w at × (event ≡ Change key (Some old) (Some w))

module _ {F : Type 0} (g : Shared F (Bor (List ℕ) × Unit {0}) Bool) (f : F) (key : List ℕ) where
  -- The call removed the object, on which the function answered true, or read it, or there was none.
  abbrev pub RemovesIf : Changed → List ℕ → Event → Type 0
  RemovesIf changed.Absent old event = (event ≡ Get key None) × (old ≡ [])
  RemovesIf changed.Kept old event = MaySay g f old false × (event ≡ Get key (Some old))
  RemovesIf changed.Put old event = MaySay g f old true × (event ≡ Remove key (Some old))
