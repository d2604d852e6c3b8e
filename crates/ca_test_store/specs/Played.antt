-- What a call of a store with a script comes to, by its turn.
use Rattle.std.specs.Prelude.{◌≡◌, ℕ, Bool, true, false, List, [], drop, None, Some}
use denote.Ref.{Bor, MutBor}
use denote.Param.Members.{Shared}
use Rattle.arrayvec.specs.ArrayVec.{ArrayVec}
use Rattle.ca_model.specs.declared.outcome.Changed.{Changed}
use Rattle.ca_model.specs.declared.outcome.Changed.TheVariants as changed
use Rattle.ca_model.specs.Edges.{Bound}
use Rattle.ca_model.specs.Event.{Event, Get, Remove, Change, Above, Below, Range, IsAnswer, effect}
use Rattle.ca_model.specs.Function.{MayLeave, MaySay}
use Rattle.ca_test_store.specs.Script.{ScriptedStore, next_turn, after_edits}

-- The call is this event at the state behind the edits that its turn has before it; then it learnt of those that the turn has behind it.
pub record Plays (a b : ScriptedStore) (event : Event) : Type 0 where
  pub turns : b.turns ≡ drop 1 a.turns
  pub answer : IsAnswer event (after_edits (next_turn a.turns).before a.known.map)
  pub map : b.known.map ≡ after_edits (next_turn a.turns).after (after_edits (effect event) (after_edits (next_turn a.turns).before a.known.map))

-- A call that is refused learnt of all edits of its turn, and made none.
pub record Skips (a b : ScriptedStore) : Type 0 where
  pub turns : b.turns ≡ drop 1 a.turns
  pub map : b.known.map ≡ after_edits (next_turn a.turns).after (after_edits (next_turn a.turns).before a.known.map)

-- The event of a call with this answer and these bytes is such a one.
module _ (Such : Event → Type 0) (key : List ℕ) where
  abbrev pub GotSuch : Bool → List ℕ → Type 0
  GotSuch true into = Such (Get key (Some into))
  GotSuch false into = Such (Get key None) × (into ≡ [])

  abbrev pub RemovedSuch : Bool → List ℕ → Type 0
  RemovedSuch true old = Such (Remove key (Some old))
  RemovedSuch false old = Such (Remove key None) × (old ≡ [])

-- The event of a walk with this answer and these bytes is such a one.
module _ (Such : Event → Type 0) (edge : Bound) where
  abbrev pub AboveSuch : Bool → List ℕ → Type 0
  AboveSuch true into = Such (Above edge (Some into))
  AboveSuch false into = Such (Above edge None) × (into ≡ [])

  abbrev pub BelowSuch : Bool → List ℕ → Type 0
  BelowSuch true into = Such (Below edge (Some into))
  BelowSuch false into = Such (Below edge None) × (into ≡ [])

-- A run of all objects within these edges is open, and nothing of it was handed out yet.
pub record OpensWhole (a b : ScriptedStore) (lo hi : Bound) : Type 0 where
  pub objects : List (List ℕ)
  pub plays : Plays a b (Range lo hi hi objects)
  pub run : b.known.run ≡ Some objects

module _ {F : Type 0} (g : Shared F (Bor (List ℕ) × Unit {0}) Bool) (f : F) (Such : Event → Type 0) (key : List ℕ) where
  abbrev pub RemovedIfSuch : Changed → List ℕ → Type 0
  RemovedIfSuch changed.Absent old = Such (Get key None) × (old ≡ [])
  RemovedIfSuch changed.Kept old = MaySay g f old false × Such (Get key (Some old))
  RemovedIfSuch changed.Put old = MaySay g f old true × Such (Remove key (Some old))

module _ {F : Type 0} (g : Shared F (Bor (List ℕ) × (MutBor (ArrayVec ℕ) × (MutBor ℕ × Unit {0}))) (Bool × (MutBor (ArrayVec ℕ) × (MutBor ℕ × Unit {0}))))
    (f : F) (Such : Event → Type 0) (key : List ℕ) where
  abbrev pub AlteredSuch : Changed → List ℕ → Type 0
  AlteredSuch changed.Absent old = Such (Change key None None) × (old ≡ [])
  AlteredSuch changed.Kept old = ((w : List ℕ) × (at : ℕ) × MayLeave g f old false w at) × Such (Change key (Some old) None)
  AlteredSuch changed.Put old = (w : List ℕ) × (at : ℕ) × MayLeave g f old true w at × Such (Change key (Some old) (Some w))
