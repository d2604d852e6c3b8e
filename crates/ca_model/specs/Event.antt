-- Calls of a store as data, each with its answer.
use Rattle.std.specs.Prelude.{◌≡◌, ◌≢◌, ℕ, Bool, true, false, List, [], ◌∷◌, Option, None, Some}
use Rattle.ca_model.specs.StoreMap.{StoreMap, get, IsFound}
use Rattle.ca_model.specs.History.{Edit, Put, Del}
use Rattle.ca_model.specs.Edges.{Bound, from, up_to, within, objects_of, first_object, last_object, IsCut}

-- a call of a store with its answer
pub data Event : Type 0 where
  -- the key, and what was found
  Get : List ℕ → Option (List ℕ) → Event
  -- the key and the object
  Write : List ℕ → List ℕ → Event
  -- the key, the object, and whether the key was absent
  WriteNew : List ℕ → List ℕ → Bool → Event
  -- the key, and what was removed
  Remove : List ℕ → Option (List ℕ) → Event
  -- the key, what was found, and what was put in its place
  Change : List ℕ → Option (List ℕ) → Option (List ℕ) → Event
  -- the lower edge, and the first object within it
  Above : Bound → Option (List ℕ) → Event
  -- the upper edge, and the last object within it
  Below : Bound → Option (List ℕ) → Event
  -- the lower and the upper edge, where the run was cut, and the objects from the lower edge up to there
  Range : Bound → Bound → Bound → List (List ℕ) → Event

-- The event's answer is the one that this map gives.
abbrev pub IsAnswer : Event → StoreMap → Type 0
IsAnswer (Get k found) map = IsFound map k found
IsAnswer (Write k o) map = Unit {0}
IsAnswer (WriteNew k o true) map = get map k ≡ []
IsAnswer (WriteNew k o false) map = get map k ≢ []
IsAnswer (Remove k found) map = IsFound map k found
IsAnswer (Change k found new) map = IsFound map k found
IsAnswer (Above lo found) map = first_object (from lo map) ≡ found
IsAnswer (Below hi found) map = last_object (up_to hi map) ≡ found
IsAnswer (Range lo hi cut objects) map = IsCut cut hi × (objects_of (within lo cut map) ≡ objects)

-- what a call does to the map: nothing, or one edit
abbrev pub effect : Event → List Edit
effect (Get k found) = []
effect (Write k o) = Put k o ∷ []
effect (WriteNew k o true) = Put k o ∷ []
effect (WriteNew k o false) = []
effect (Remove k None) = []
effect (Remove k (Some o)) = Del k ∷ []
effect (Change k None new) = []
effect (Change k (Some o) None) = []
effect (Change k (Some o) (Some new)) = Put k new ∷ []
effect (Above lo found) = []
effect (Below hi found) = []
effect (Range lo hi cut objects) = []

-- an entry of a log: a call with its answer, and its place in the history
abbrev pub Entry : Type 0
Entry = Event × ℕ
