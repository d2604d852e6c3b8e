-- What an answer tells of an event, of another kind of event.
use Rattle.std.proofs.Common.{ℕ, Bool, true, false, List, Some, None}
use denote.Ref.{Bor, MutBor}
use denote.Param.Members.{Shared}
use Rattle.arrayvec.specs.ArrayVec.{ArrayVec}
use Rattle.ca_model.specs.declared.outcome.Changed.{Changed}
use Rattle.ca_model.specs.declared.outcome.Changed.TheVariants as changed
use Rattle.ca_model.specs.Edges.{Bound}
use Rattle.ca_model.specs.Event.{Event, Get, Remove, Change, Above, Below}
use Rattle.ca_model.specs.Known.{Known, Meets}
use Rattle.ca_model.specs.Answer.{Got, Removed, Altered, RemovedIf, FoundAbove, FoundBelow}
use Rattle.ca_test_store.specs.Played.{GotSuch, RemovedSuch, RemovedIfSuch, AlteredSuch, AboveSuch, BelowSuch}

module _ (P Q : Event → Type 0) (so : (event : Event) → P event → Q event) (key : List ℕ) where
  pub got : (found : Bool) (into : List ℕ) → GotSuch P key found into → GotSuch Q key found into
  got true into h = so (Get key (Some into)) h
  got false into h = (so (Get key None) h.0, h.1)

  pub removed : (was : Bool) (old : List ℕ) → RemovedSuch P key was old → RemovedSuch Q key was old
  removed true old h = so (Remove key (Some old)) h
  removed false old h = (so (Remove key None) h.0, h.1)

  pub removed_if : {F : Type 0} (g : Shared F (Bor (List ℕ) × Unit {0}) Bool) (f : F) (result : Changed) (old : List ℕ) → RemovedIfSuch g f P key result old
      → RemovedIfSuch g f Q key result old
  removed_if g f changed.Absent old h = (so (Get key None) h.0, h.1)
  removed_if g f changed.Kept old h = (h.0, so (Get key (Some old)) h.1)
  removed_if g f changed.Put old h = (h.0, so (Remove key (Some old)) h.1)

  pub altered : {F : Type 0} (g : Shared F (Bor (List ℕ) × (MutBor (ArrayVec ℕ) × (MutBor ℕ × Unit {0}))) (Bool
      × (MutBor (ArrayVec ℕ) × (MutBor ℕ × Unit {0})))) (f : F) (result : Changed) (old : List ℕ) → AlteredSuch g f P key result old
      → AlteredSuch g f Q key result old
  altered g f changed.Absent old h = (so (Change key None None) h.0, h.1)
  altered g f changed.Kept old h = (h.0, so (Change key (Some old) None) h.1)
  altered g f changed.Put old h = (h.0, h.1, h.2, so (Change key (Some old) (Some h.0)) h.3)

-- The same as the contracts of a store say it.
module _ (a b : Known) (key : List ℕ) where
  pub as_got : (found : Bool) (into : List ℕ) → GotSuch (Meets a b) key found into → Got a b key found into
  as_got true into h = h
  as_got false into h = h

  pub as_removed : (was : Bool) (old : List ℕ) → RemovedSuch (Meets a b) key was old → Removed a b key was old
  as_removed true old h = h
  as_removed false old h = h

  pub as_removed_if : {F : Type 0} (g : Shared F (Bor (List ℕ) × Unit {0}) Bool) (f : F) (result : Changed) (old : List ℕ)
      → RemovedIfSuch g f (Meets a b) key result old → RemovedIf g f a b key result old
  as_removed_if g f changed.Absent old h = h
  as_removed_if g f changed.Kept old h = h
  as_removed_if g f changed.Put old h = h

  pub as_altered : {F : Type 0} (g : Shared F (Bor (List ℕ) × (MutBor (ArrayVec ℕ) × (MutBor ℕ × Unit {0}))) (Bool
      × (MutBor (ArrayVec ℕ) × (MutBor ℕ × Unit {0})))) (f : F) (result : Changed) (old : List ℕ) → AlteredSuch g f (Meets a b) key result old
      → Altered g f a b key result old
  as_altered g f changed.Absent old h = h
  as_altered g f changed.Kept old h = h
  as_altered g f changed.Put old h = h

-- A walk's answer tells a store's contract of its event, where it tells another kind of that event.
module _ (P : Event → Type 0) (a b : Known) (so : (event : Event) → P event → Meets a b event) (edge : Bound) where
  pub above : (found : Bool) (into : List ℕ) → AboveSuch P edge found into → FoundAbove a b edge found into
  above true into h = so (Above edge (Some into)) h
  above false into h = (so (Above edge None) h.0, h.1)

  pub below : (found : Bool) (into : List ℕ) → BelowSuch P edge found into → FoundBelow a b edge found into
  below true into h = so (Below edge (Some into)) h
  below false into h = (so (Below edge None) h.0, h.1)
