-- What a table's calls come to.
use Rattle.std.specs.Prelude.{◌≡◌, ◌≢◌, ◌⊎◌, ℕ, ◌+◌, ◌≤◌, true, List, [], length, None, Some, Result, Ok, Err}
use Rattle.ca_term.specs.Code.{code_of}
use Rattle.ca_ets.specs.Command.{Command, Continuation, Response, response_of}
use Rattle.ca_ets.specs.Nature.{Asking, ReadsKey, ReadsBy, EditsBy, EditsRead, Puts, Found, OfKey, OfLeastKey, OfGreatestKey, OfNextKey, OfPreviousKey, Memory, ForNothing, ForRoom, ForFound, ForOperations, ForResults}
use Rattle.ca_ets.specs.Step.{nature_of}
use Rattle.ca_ets.specs.Update.{IsFilledList, Several, operations_of}
use Rattle.ca_ets.specs.declared.command.Reply.{Reply}
use Rattle.ca_model.specs.declared.outcome.Cause.TheVariants as cause
use Rattle.ca_model.specs.declared.outcome.Outcome.{Outcome}
use Rattle.ca_model.specs.declared.outcome.Outcome.TheVariants as outcome
use Rattle.ca_model.specs.declared.outcome.Spent.{Spent}
use Rattle.ca_model.specs.Answer.{IsDone}
use Rattle.ca_model.specs.Edges.{Excluded, Unbounded}
use Rattle.ca_model.specs.Event.{Above, Below, Event, Get}
use Rattle.ca_model.specs.Known.{Known, Meets, Stays, one_more}
use Rattle.ca_plan.specs.Plan.{shared_key}
use Rattle.ca_explain.specs.Steps.{ByCall, ByNone, Refrains, Refused, Overtaken}

-- one turn that was lost to others
abbrev pub one_lost : Spent
one_lost = record { lost = 1; helped = 0; passed = 0 }

-- Another object was put under the command's key while the table worked: only what removes an object that was read before is overtaken so.
abbrev pub IsOvertaken : Known → Known → Asking → Spent → Type 0
IsOvertaken a b (EditsRead k) spent = (spent ≡ one_lost) × Overtaken a b (code_of k)
IsOvertaken a b asks spent = ⊥

-- Whether the store may refuse the command's call: it never refuses a read of one key.
abbrev pub MayBeRefused : ℕ → Asking → Type 0
MayBeRefused keypos ReadsKey = ⊥
MayBeRefused keypos (ReadsBy s) = shared_key keypos s ≡ None
MayBeRefused keypos (EditsBy op) = operations_of keypos op ≢ Some (Several [])
MayBeRefused keypos asks = Unit {0}

-- Whether it may be for want of levels: a new key alone needs one.
abbrev pub MayBeDeep : Asking → Type 0
MayBeDeep Puts = Unit {0}
MayBeDeep asks = ⊥

-- how many reads a command's call may have before the one that makes its step
abbrev pub reads_before : Asking → ℕ
reads_before (EditsRead k) = 1
reads_before asks = 0

-- The command is an `update_counter` by a list of no operations, which is a read.
abbrev pub IsEmptyUpdate : ℕ → Asking → Type 0
IsEmptyUpdate keypos (EditsBy op) = operations_of keypos op ≡ Some (Several [])
IsEmptyUpdate keypos asks = ⊥

-- Nothing but the room changed, or the table only read.
abbrev pub EditsNothing : Known → Known → Type 0
EditsNothing a b = Stays a b ⊎ Refrains a b a.counts

-- An object was found by this call, which edited nothing.
abbrev pub HasFound : Known → Known → (List ℕ → Event) → Type 0
HasFound a b event = (object : List ℕ) × Meets a b (event object)

-- the call of the store that finds this object
abbrev pub finding : Found → List ℕ → Event
finding (OfKey k) object = Get (code_of k) (Some object)
finding OfLeastKey object = Above Unbounded (Some object)
finding OfGreatestKey object = Below Unbounded (Some object)
finding (OfNextKey k) object = Above (Excluded (code_of k)) (Some object)
finding (OfPreviousKey k) object = Below (Excluded (code_of k)) (Some object)

-- Where memory may lack: for a new key where the store has no room, with nothing else changed; for an object that was found, behind that call alone;
-- for operations in a list, before any call; for selections anywhere, with no edit.
abbrev pub Lacks : Known → Known → Memory → Type 0
Lacks a b ForNothing = ⊥
Lacks a b ForRoom = Stays a b × (a.spare ≡ 0)
Lacks a b (ForFound found) = HasFound a b (finding found)
Lacks a b (ForOperations op) = Stays a b × IsFilledList op
Lacks a b ForResults = EditsNothing a b

-- The step was made by the last of its calls of the store, and so many reads at most stand before it in the log.
pub record ByOneCall (a b : Known) (before : Continuation) (command : Command) (response : Response) (behind : Continuation) : Type 0 where
  pub call : ByCall a b before command response behind
  pub few : length call.left ≤ reads_before (nature_of command).asks

-- The command's step was made, by one call of the store or by none.
abbrev pub StepsOnce : Known → Known → Continuation → Command → Response → Continuation → Type 0
StepsOnce a b before command response behind = ByOneCall a b before command response behind ⊎ ByNone a b before command response behind

module _ (a b : Known) (budget : ℕ) (command : Command) where
  -- A reply is that of the command's step, at every continuation, which stays as it was. A refusal is one of the store, whose count
  -- rose by one, and `Busy` spent the budget; or `take` was overtaken.
  abbrev pub HasOutcome : Outcome Reply → Type 0
  HasOutcome (outcome.Done reply) = (continuation : Continuation) → StepsOnce a b continuation command (response_of reply) continuation
  HasOutcome (outcome.Busy spent) =
      (MayBeRefused a.keypos (nature_of command).asks × Refused a b (one_more (cause.Busy spent) a.counts)
      × (budget ≤ spent.lost + spent.helped + spent.passed))
      ⊎ IsOvertaken a b (nature_of command).asks spent
  HasOutcome (outcome.Full why) = MayBeRefused a.keypos (nature_of command).asks × Refused a b (one_more (cause.Full why) a.counts)
  HasOutcome (outcome.Deep level) = MayBeDeep (nature_of command).asks × Refused a b (one_more (cause.Deep level) a.counts)
  HasOutcome (outcome.Worn counter) = MayBeRefused a.keypos (nature_of command).asks × Refused a b (one_more (cause.Worn counter) a.counts)

  -- The call has such an outcome. Where memory wasn't found, it may lack there.
  abbrev pub ComesTo : {Lack : Type 0} → Result (Outcome Reply) Lack → Type 0
  ComesTo (Ok outcome) = HasOutcome outcome
  ComesTo (Err lack) = Lacks a b (nature_of command).takes

  -- The same of a call of a client whose batches stood here before it and stand there behind it: a reply alone moves them.
  abbrev pub HasOutcomeFrom : Continuation → Continuation → Outcome Reply → Type 0
  HasOutcomeFrom before behind (outcome.Done reply) = StepsOnce a b before command (response_of reply) behind
  HasOutcomeFrom before behind (outcome.Busy spent) = HasOutcome (outcome.Busy spent) × (behind ≡ before)
  HasOutcomeFrom before behind (outcome.Full why) = HasOutcome (outcome.Full why) × (behind ≡ before)
  HasOutcomeFrom before behind (outcome.Deep level) = HasOutcome (outcome.Deep level) × (behind ≡ before)
  HasOutcomeFrom before behind (outcome.Worn counter) = HasOutcome (outcome.Worn counter) × (behind ≡ before)

  abbrev pub ComesToFrom : {Lack : Type 0} → Continuation → Continuation → Result (Outcome Reply) Lack → Type 0
  ComesToFrom before behind (Ok outcome) = HasOutcomeFrom before behind outcome
  ComesToFrom before behind (Err lack) = Lacks a b (nature_of command).takes × (behind ≡ before)

-- Over a store that is sure and that nobody else edits, each call is done where memory is found.
abbrev pub SureAndAloneIsDone : Type 0
SureAndAloneIsDone = (a b : Known) (budget : ℕ) (command : Command) (outcome : Outcome Reply) → a.sure ≡ true → a.alone ≡ true
    → HasOutcome a b budget command outcome → IsDone outcome

-- The same of calls of a client whose batches may move.
abbrev pub SureAndAloneIsDoneFrom : Type 0
SureAndAloneIsDoneFrom = (a b : Known) (budget : ℕ) (command : Command) (before behind : Continuation) (outcome : Outcome Reply) → a.sure ≡ true
    → a.alone ≡ true → HasOutcomeFrom a b budget command before behind outcome → IsDone outcome
