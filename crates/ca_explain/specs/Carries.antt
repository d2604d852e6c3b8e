-- How a store's call carries a command's step.
use Rattle.std.specs.Prelude.{◌≡◌, ℕ, List, [], ◌∷◌, Option, None, Some}
use Rattle.ca_term.specs.Tree.{Tree, AreTerms}
use Rattle.ca_ets.specs.OrderedMap.{IsTable}
use Rattle.ca_ets.specs.Command.{Command, Response, Continuation}
use Rattle.ca_ets.specs.Step.{Step, step}
use Rattle.ca_model.specs.StoreMap.{StoreMap}
use Rattle.ca_model.specs.History.{Edit, after_edit}
use Rattle.ca_model.specs.Event.{Event, Entry, IsAnswer, effect}
use Rattle.ca_explain.specs.Stands.{Stands}

-- the store map after these edits
abbrev pub with_edits : List Edit → StoreMap → StoreMap
with_edits [] store = store
with_edits (edit ∷ edits) store = with_edits edits (after_edit edit store)

-- The step leaves this table, answers so and hands on this continuation.
abbrev pub Gives : Step → List Tree → Response → Continuation → Type 0
Gives made table response next = made ≡ record { map = table; continuation = next; response = response }

-- At every store map that stands for a table and gives the call this answer, the command's step has this response and this next
-- continuation, and the table that it leaves is what the map stands for after the call's effect.
pub record Carries (keypos : ℕ) (event : Event) (continuation : Continuation) (command : Command) (response : Response) (next : Continuation) : Type 0 where
  pub at : (store : StoreMap) (table : List Tree) → Stands keypos store table → IsAnswer event store
      → (left : List Tree) × Gives (step keypos table continuation command) left response next × Stands keypos (with_edits (effect event) store) left

-- At every table the command's step has this response and this next continuation, and changes nothing: it needs no call of the store.
pub record IsFree (keypos : ℕ) (continuation : Continuation) (command : Command) (response : Response) (next : Continuation) : Type 0 where
  pub at : (table : List Tree) → IsTable keypos table → AreTerms table → Gives (step keypos table continuation command) table response next

-- The step is carried by the call that this entry of a log tells, or it is free.
abbrev pub IsCarried : ℕ → Option Entry → Continuation → Command → Response → Continuation → Type 0
IsCarried keypos None continuation command response next = IsFree keypos continuation command response next
IsCarried keypos (Some entry) continuation command response next = Carries keypos entry.0 continuation command response next
