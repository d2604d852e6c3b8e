-- Edits of a store map, and histories: lists of edits, each with the number of the pass that made it.
use Rattle.std.specs.Prelude.{ℕ, ◌≤◌, ◌≢◌, ◌==◌, List, [], ◌∷◌, if◌then◌else◌, take}
use Rattle.ca_model.specs.StoreMap.{StoreMap, put, del, IsPair}

pub data Edit : Type 0 where
  -- a key and its new object
  Put : List ℕ → List ℕ → Edit
  -- a key
  Del : List ℕ → Edit

abbrev pub History : Type 0
History = List (ℕ × Edit)

-- the map after an edit
abbrev pub after_edit : Edit → StoreMap → StoreMap
after_edit (Put k o) map = put map k o
after_edit (Del k) map = del map k

-- the map after all these edits, in order
abbrev pub after : History → StoreMap → StoreMap
after [] map = map
after (step ∷ steps) map = after steps (after_edit step.1 map)

-- the map after the first p edits of a history, from the empty one
abbrev pub state : History → ℕ → StoreMap
state history p = after (take p history) []

-- these edits as a pass's part of a history
abbrev pub by_pass : ℕ → List Edit → History
by_pass pass [] = []
by_pass pass (edit ∷ edits) = (pass, edit) ∷ by_pass pass edits

-- the edits of a pass in a history, in order
abbrev pub edits_of_pass : ℕ → History → List Edit
edits_of_pass pass [] = []
edits_of_pass pass (step ∷ steps) = if step.0 == pass then step.1 ∷ edits_of_pass pass steps else edits_of_pass pass steps

-- An edit puts an object under its key alone.
abbrev pub IsEdit : ℕ → Edit → Type 0
IsEdit keypos (Put k o) = IsPair keypos (k, o)
IsEdit keypos (Del k) = Unit {0}

abbrev pub AreEdits : ℕ → History → Type 0
AreEdits keypos [] = Unit {0}
AreEdits keypos (step ∷ steps) = IsEdit keypos step.1 × AreEdits keypos steps

-- The edits were made by passes with the numbers from 1 to `passes`.
abbrev pub AreByPasses : ℕ → History → Type 0
AreByPasses passes [] = Unit {0}
AreByPasses passes (step ∷ steps) = (1 ≤ step.0) × (step.0 ≤ passes) × AreByPasses passes steps

-- No edit was made by this pass.
abbrev pub AreByOthers : ℕ → History → Type 0
AreByOthers pass [] = Unit {0}
AreByOthers pass (step ∷ steps) = (step.0 ≢ pass) × AreByOthers pass steps
