-- Which logs of a pass are lawful for a history.
use Rattle.std.specs.Prelude.{◌≡◌, ℕ, ◌-◌, ◌≤◌, ◌<◌, List, [], ◌∷◌, ◌++◌, length, Some, slice_get}
use Rattle.ca_model.specs.History.{Edit, History, state, edits_of_pass}
use Rattle.ca_model.specs.Event.{Event, Entry, IsAnswer, effect}

-- An update with effect stands at its own edit in the history and answers by the state before it; every other entry
-- answers by the state at its place.
abbrev pub IsEntryAt : ℕ → History → Event → ℕ → List Edit → Type 0
IsEntryAt pass history event p [] = (p ≤ length history) × IsAnswer event (state history p)
IsEntryAt pass history event p (edit ∷ edits) =
    (1 ≤ p) × (p ≤ length history) × (slice_get history (p - 1) ≡ Some (pass, edit)) × IsAnswer event (state history (p - 1))

abbrev pub AreEntries : ℕ → History → List Entry → Type 0
AreEntries pass history [] = Unit {0}
AreEntries pass history (entry ∷ log) = IsEntryAt pass history entry.0 entry.1 (effect entry.0) × AreEntries pass history log

-- A place is not less than `low`; that of an update with effect is greater.
abbrev pub IsPlaceFrom : ℕ → ℕ → List Edit → Type 0
IsPlaceFrom low p [] = low ≤ p
IsPlaceFrom low p (edit ∷ edits) = low < p

-- Places never fall, and that of an update with effect is greater than all earlier ones.
abbrev pub PlacesRise : ℕ → List Entry → Type 0
PlacesRise low [] = Unit {0}
PlacesRise low (entry ∷ log) = IsPlaceFrom low entry.1 (effect entry.0) × PlacesRise entry.1 log

-- what the calls of a log did to the map, in order
abbrev pub edits_of_log : List Entry → List Edit
edits_of_log [] = []
edits_of_log (entry ∷ log) = effect entry.0 ++ edits_of_log log

pub record IsLawful (pass : ℕ) (history : History) (log : List Entry) : Type 0 where
  pub entries : AreEntries pass history log
  pub places : PlacesRise 0 log
  -- the pass's edits in the history are exactly the log's updates with effect, in order
  pub edits : edits_of_pass pass history ≡ edits_of_log log
