-- How a script refuses a call.
use Rattle.std.specs.Prelude.{◌≡◌, ℕ, Option, None, Some}
use Rattle.ca_model.specs.declared.outcome.Cause.{Cause}
use Rattle.ca_model.specs.declared.outcome.Cause.TheVariants as cause
use Rattle.ca_model.specs.declared.outcome.Outcome.{Outcome}
use Rattle.ca_model.specs.declared.outcome.Outcome.TheVariants as outcome
use Rattle.ca_model.specs.Answer.{IsDone}
use Rattle.ca_model.specs.Known.{Counts, one_more}
use Rattle.ca_test_store.specs.declared.refusal.Refusal.{Refusal}
use Rattle.ca_test_store.specs.declared.refusal.Refusal.TheVariants as refusal

-- the outcome of a refused call: a busy one lost its whole budget
abbrev pub refused : {T : Type 0} → Refusal → ℕ → Outcome T
refused refusal.Busy budget = outcome.Busy (record { lost = budget; helped = 0; passed = 0 })
refused (refusal.Full cause) budget = outcome.Full cause
refused (refusal.Deep level) budget = outcome.Deep level
refused (refusal.Worn counter) budget = outcome.Worn counter

-- why such a call is refused
abbrev pub cause_of : Refusal → ℕ → Cause
cause_of refusal.Busy budget = cause.Busy (record { lost = budget; helped = 0; passed = 0 })
cause_of (refusal.Full why) budget = cause.Full why
cause_of (refusal.Deep level) budget = cause.Deep level
cause_of (refusal.Worn counter) budget = cause.Worn counter

-- the counts with one more of this refusal, of a call with this budget
abbrev pub counted : Refusal → ℕ → Counts → Counts
counted refusal budget counts = one_more (cause_of refusal budget) counts

-- how a call is refused that puts no new key: it needs no level
abbrev pub unless_deep : Option Refusal → Option Refusal
unless_deep None = None
unless_deep (Some refusal.Busy) = Some refusal.Busy
unless_deep (Some (refusal.Full cause)) = Some (refusal.Full cause)
unless_deep (Some (refusal.Deep level)) = None
unless_deep (Some (refusal.Worn counter)) = Some (refusal.Worn counter)

-- The outcome is the refusal that the script has, or where it has none the call is done.
abbrev pub IsAsTold : {T : Type 0} → Option Refusal → ℕ → Outcome T → Type 0
IsAsTold None budget found = IsDone found
IsAsTold (Some told) budget found = found ≡ refused told budget
