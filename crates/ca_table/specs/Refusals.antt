-- What a table passes on of its store's answers.
use Rattle.std.specs.Prelude.{◌≡◌, ℕ, ◌+◌, ◌≤◌, Bool, true, false, List, Result, Ok, Err, Some, None}
use Rattle.ca_ets.specs.declared.command.Reply.{Reply}
use Rattle.ca_model.specs.declared.outcome.Cause.TheVariants as cause
use Rattle.ca_model.specs.declared.outcome.Outcome.{Outcome}
use Rattle.ca_model.specs.declared.outcome.Outcome.TheVariants as outcome
use Rattle.ca_model.specs.declared.outcome.Changed.{Changed}
use Rattle.ca_model.specs.declared.outcome.Changed.TheVariants as changed
use Rattle.ca_model.specs.Event.{Get, Remove}
use Rattle.ca_model.specs.Known.{Known, Meets, Declines, one_more}

-- An outcome as the value of a call that was done, or the same refusal.
abbrev pub IsParted : {T : Type 0} → Outcome T → Result T (Outcome Reply) → Type 0
IsParted (outcome.Done x) parted = parted ≡ Ok x
IsParted (outcome.Busy spent) parted = parted ≡ Err (outcome.Busy spent)
IsParted (outcome.Full cause) parted = parted ≡ Err (outcome.Full cause)
IsParted (outcome.Deep level) parted = parted ≡ Err (outcome.Deep level)
IsParted (outcome.Worn counter) parted = parted ≡ Err (outcome.Worn counter)

module _ (a b : Known) (budget : ℕ) where
  -- The store refused its call so.
  abbrev pub IsRefusal : Outcome Reply → Type 0
  IsRefusal (outcome.Done reply) = ⊥
  IsRefusal (outcome.Busy spent) = Declines a b (one_more (cause.Busy spent) a.counts) × (budget ≤ spent.lost + spent.helped + spent.passed)
  IsRefusal (outcome.Full why) = Declines a b (one_more (cause.Full why) a.counts)
  IsRefusal (outcome.Deep level) = Declines a b (one_more (cause.Deep level) a.counts)
  IsRefusal (outcome.Worn counter) = Declines a b (one_more (cause.Worn counter) a.counts)

module _ (a b : Known) where
  -- The key's object was these bytes and is removed, or is another one and stays, or there is none.
  abbrev pub RemovedSame : List ℕ → List ℕ → Changed → Type 0
  RemovedSame key object changed.Absent = Meets a b (Get key None)
  RemovedSame key object changed.Kept = (other : List ℕ) × (other ≡ object → ⊥) × Meets a b (Get key (Some other))
  RemovedSame key object changed.Put = Meets a b (Remove key (Some object))

-- The answer tells whether two lists of bytes are one.
abbrev pub IsSame : Bool → List ℕ → List ℕ → Type 0
IsSame true a b = a ≡ b
IsSame false a b = a ≡ b → ⊥
