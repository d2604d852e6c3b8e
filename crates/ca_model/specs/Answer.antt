-- What the answers of a store's calls tell.
use Rattle.std.specs.Prelude.{◌≡◌, ℕ, ◌+◌, Bool, true, false, List, [], None, Some}
use denote.Ref.{Bor, MutBor}
use denote.Param.Members.{Shared}
use Rattle.arrayvec.specs.ArrayVec.{ArrayVec}
use Rattle.ca_model.specs.declared.outcome.Outcome.{Outcome}
use Rattle.ca_model.specs.declared.outcome.Outcome.TheVariants as outcome
use Rattle.ca_model.specs.declared.outcome.Cause.TheVariants as cause
use Rattle.ca_model.specs.declared.outcome.Changed.{Changed}
use Rattle.ca_model.specs.declared.outcome.Changed.TheVariants as changed
use Rattle.ca_model.specs.Edges.{Bound}
use Rattle.ca_model.specs.Event.{Get, Remove, Change, Above, Below}
use Rattle.ca_model.specs.Known.{Known, Counts, Meets, one_more}
use Rattle.ca_model.specs.Function.{MayLeave, MaySay}

-- Where the call is done, this holds of its value.
abbrev pub IfDone : {T : Type 0} → Outcome T → (T → Type 0) → Type 0
IfDone (outcome.Done x) P = P x
IfDone (outcome.Busy s) P = Unit {0}
IfDone (outcome.Full s) P = Unit {0}
IfDone (outcome.Deep s) P = Unit {0}
IfDone (outcome.Worn s) P = Unit {0}

-- Where the call is refused, this holds, given how the refusal is counted.
abbrev pub IfRefused : {T : Type 0} → Outcome T → ((Counts → Counts) → Type 0) → Type 0
IfRefused (outcome.Done x) P = Unit {0}
IfRefused (outcome.Busy s) P = P (one_more (cause.Busy s))
IfRefused (outcome.Full s) P = P (one_more (cause.Full s))
IfRefused (outcome.Deep s) P = P (one_more (cause.Deep s))
IfRefused (outcome.Worn s) P = P (one_more (cause.Worn s))

-- The call is done.
abbrev pub IsDone : {T : Type 0} → Outcome T → Type 0
IsDone (outcome.Done x) = Unit {0}
IsDone (outcome.Busy s) = ⊥
IsDone (outcome.Full s) = ⊥
IsDone (outcome.Deep s) = ⊥
IsDone (outcome.Worn s) = ⊥

-- The call is not refused for want of levels.
abbrev pub IsNeverDeep : {T : Type 0} → Outcome T → Type 0
IsNeverDeep (outcome.Done x) = Unit {0}
IsNeverDeep (outcome.Busy s) = Unit {0}
IsNeverDeep (outcome.Full s) = Unit {0}
IsNeverDeep (outcome.Deep s) = ⊥
IsNeverDeep (outcome.Worn s) = Unit {0}

-- Where the call is busy, this holds of how many turns it spent in all.
abbrev pub IfBusy : {T : Type 0} → Outcome T → (ℕ → Type 0) → Type 0
IfBusy (outcome.Done x) P = Unit {0}
IfBusy (outcome.Busy s) P = P (s.lost + s.helped + s.passed)
IfBusy (outcome.Full s) P = Unit {0}
IfBusy (outcome.Deep s) P = Unit {0}
IfBusy (outcome.Worn s) P = Unit {0}

-- The object was found and is these bytes, or there was none and there are no bytes.
abbrev pub Got : Known → Known → List ℕ → Bool → List ℕ → Type 0
Got a b key true into = Meets a b (Get key (Some into))
Got a b key false into = Meets a b (Get key None) × (into ≡ [])

-- The object was removed and is these bytes, or there was none and there are no bytes.
abbrev pub Removed : Known → Known → List ℕ → Bool → List ℕ → Type 0
Removed a b key true old = Meets a b (Remove key (Some old))
Removed a b key false old = Meets a b (Remove key None) × (old ≡ [])

module _ {F : Type 0} (g : Shared F (Bor (List ℕ) × (MutBor (ArrayVec ℕ) × (MutBor ℕ × Unit {0}))) (Bool × (MutBor (ArrayVec ℕ) × (MutBor ℕ × Unit {0}))))
    (f : F) (a b : Known) (key : List ℕ) where
  -- The object is these bytes. Where the function answered true on it, what it wrote replaced it; where it answered false nothing changed.
  abbrev pub Altered : Changed → List ℕ → Type 0
  Altered changed.Absent old = Meets a b (Change key None None) × (old ≡ [])
  Altered changed.Kept old = ((w : List ℕ) × (at : ℕ) × MayLeave g f old false w at) × Meets a b (Change key (Some old) None)
  Altered changed.Put old = (w : List ℕ) × (at : ℕ) × MayLeave g f old true w at × Meets a b (Change key (Some old) (Some w))

module _ {F : Type 0} (g : Shared F (Bor (List ℕ) × Unit {0}) Bool) (f : F) (a b : Known) (key : List ℕ) where
  -- The object is these bytes. Where the function answered true on it, it was removed; where it answered false it was only read.
  abbrev pub RemovedIf : Changed → List ℕ → Type 0
  RemovedIf changed.Absent old = Meets a b (Get key None) × (old ≡ [])
  RemovedIf changed.Kept old = MaySay g f old false × Meets a b (Get key (Some old))
  RemovedIf changed.Put old = MaySay g f old true × Meets a b (Remove key (Some old))

-- The first object within a lower edge is these bytes, or there is none and there are no bytes.
abbrev pub FoundAbove : Known → Known → Bound → Bool → List ℕ → Type 0
FoundAbove a b lo true into = Meets a b (Above lo (Some into))
FoundAbove a b lo false into = Meets a b (Above lo None) × (into ≡ [])

-- The last object within an upper edge is these bytes, or there is none and there are no bytes.
abbrev pub FoundBelow : Known → Known → Bound → Bool → List ℕ → Type 0
FoundBelow a b hi true into = Meets a b (Below hi (Some into))
FoundBelow a b hi false into = Meets a b (Below hi None) × (into ≡ [])
