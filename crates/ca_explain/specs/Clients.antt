-- What a client's commands, their answers and the log of its pass have to do with one another.
use Rattle.std.specs.Prelude.{◌≡◌, ℕ, List, [], ◌∷◌, ◌++◌, Option, None, Some, Ok, Err}
use Rattle.ca_ets.specs.Command.{Command, Answer, Continuation}
use Rattle.ca_model.specs.Event.{Entry, effect}
use Rattle.ca_explain.specs.Carries.{IsCarried}

-- What the tries of one command wrote into the log: reads that are left over, and then the command's event, where it has one.
pub record Part : Type 0 where
  pub left : List Entry
  pub event : Option Entry

-- a client's commands, their answers, and the part of each command in the log of its pass
pub record Client : Type 0 where
  pub commands : List Command
  pub answers : List Answer
  pub parts : List Part

-- a log with this entry at its front, where there is one
abbrev pub from_event : Option Entry → List Entry → List Entry
from_event None log = log
from_event (Some entry) log = entry ∷ log

-- the log that the parts make up
abbrev pub log_of : List Part → List Entry
log_of [] = []
log_of (part ∷ parts) = part.left ++ from_event part.event (log_of parts)

-- None of these entries has an effect.
abbrev pub AreReads : List Entry → Type 0
AreReads [] = Unit {0}
AreReads (entry ∷ log) = (effect entry.0 ≡ []) × AreReads log

-- From this continuation on each reply is that of a step which the command's part carries; a refused command has no event and hands on
-- its continuation.
abbrev pub Plays : ℕ → Continuation → List Command → List Answer → List Part → Type 0
Plays keypos continuation [] [] [] = Unit {0}
Plays keypos continuation (command ∷ commands) (Ok response ∷ answers) (part ∷ parts) =
    AreReads part.left
    × ((next : Continuation) × IsCarried keypos part.event continuation command response next × Plays keypos next commands answers parts)
Plays keypos continuation (command ∷ commands) (Err refusal ∷ answers) (part ∷ parts) =
    AreReads part.left × (part.event ≡ None) × Plays keypos continuation commands answers parts
Plays keypos continuation commands answers parts = ⊥
