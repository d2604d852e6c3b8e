-- What a call of a table comes to: the one-thread step at one state between what was known before the call and after it, or no edit.
use Rattle.std.specs.Prelude.{◌≡◌, ◌⊎◌, ℕ, true, false, List, [], ◌∷◌, ◌++◌}
use Rattle.ca_term.specs.Tree.{Tree}
use Rattle.ca_ets.specs.Command.{Command, Response, Continuation}
use Rattle.ca_ets.specs.Step.{step}
use Rattle.ca_model.specs.History.{History, Put, after, AreByOthers}
use Rattle.ca_model.specs.Event.{Event, Entry, IsAnswer}
use Rattle.ca_model.specs.Known.{Known, Counts, Learns, Stays, around, place_of}
use Rattle.ca_explain.specs.Stands.{Stands}
use Rattle.ca_explain.specs.Carries.{Carries, IsFree, Gives}
use Rattle.ca_explain.specs.Clients.{AreReads}

-- The last call of the store made the step, at one state between what was known before and after; the log got reads, and then this call.
-- What was learnt beside its own edit was done by others.
pub record ByCall (a b : Known) (continuation : Continuation) (command : Command) (response : Response) (next : Continuation) : Type 0 where
  pub left : List Entry
  pub reads : AreReads left
  pub event : Event
  pub carries : Carries a.keypos event continuation command response next
  pub earlier : History
  pub later : History
  pub answer : IsAnswer event (after earlier a.map)
  pub learns : Learns a b (around a.pass earlier event later) (left ++ (event, place_of a earlier event) ∷ [])
  pub others_earlier : AreByOthers a.pass earlier
  pub others_later : AreByOthers a.pass later
  pub alone : a.alone ≡ true → (earlier ≡ []) × (later ≡ [])
  pub counts : b.counts ≡ a.counts

-- The step is this at every table, changes none, and nothing but the room changed in the store.
pub record ByNone (a b : Known) (continuation : Continuation) (command : Command) (response : Response) (next : Continuation) : Type 0 where
  pub stays : Stays a b
  pub free : IsFree a.keypos continuation command response next

-- The command's step was made, by a call of the store or without one.
abbrev pub Steps : Known → Known → Continuation → Command → Response → Continuation → Type 0
Steps a b continuation command response next = ByCall a b continuation command response next ⊎ ByNone a b continuation command response next

-- No edit was made, and these are the counts now; what was read stands in the log, and what was learnt was done by others.
pub record Refrains (a b : Known) (counts : Counts) : Type 0 where
  pub left : List Entry
  pub reads : AreReads left
  pub learnt : History
  pub learns : Learns a b learnt left
  pub others : AreByOthers a.pass learnt
  pub alone : a.alone ≡ true → learnt ≡ []
  pub counts_are : b.counts ≡ counts

-- The store refused a call, which is counted; a store that is sure refuses nothing.
pub record Refused (a b : Known) (counts : Counts) : Type 0 where
  pub refrains : Refrains a b counts
  pub unsure : a.sure ≡ false

-- These edits put an object under this key.
abbrev pub HasPut : List ℕ → History → Type 0
HasPut key [] = ⊥
HasPut key (step ∷ steps) = ((object : List ℕ) × (step.1 ≡ Put key object)) ⊎ HasPut key steps

-- The store refused nothing, but an edit that was learnt put another object under this key.
pub record Overtaken (a b : Known) (key : List ℕ) : Type 0 where
  pub refrains : Refrains a b a.counts
  pub put : HasPut key refrains.learnt

-- A store that is sure refuses nothing.
abbrev pub SureIsNeverRefused : Type 0
SureIsNeverRefused = (a b : Known) (counts : Counts) → a.sure ≡ true → Refused a b counts → ⊥

-- A call over a store that nobody else edits is never overtaken.
abbrev pub AloneIsNeverOvertaken : Type 0
AloneIsNeverOvertaken = (a b : Known) (key : List ℕ) → a.alone ≡ true → Overtaken a b key → ⊥

-- Over a store that nobody else edits a step is the one-thread step on the table that the known map stands for.
abbrev pub AloneSteps : Type 0
AloneSteps = (a b : Known) (continuation : Continuation) (command : Command) (response : Response) (next : Continuation) (table : List Tree) →
    Steps a b continuation command response next → a.alone ≡ true → Stands a.keypos a.map table →
    (left : List Tree) × Gives (step a.keypos table continuation command) left response next × Stands a.keypos b.map left
