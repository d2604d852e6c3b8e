-- Which calls a client's commands made of its table's store, one after the other, told by what the store promises of them.
use Rattle.std.specs.Prelude.{◌≡◌, ℕ, zero, suc, List, [], ◌∷◌, Ok, Err}
use Rattle.ca_ets.specs.Command.{Command, Answer, Full, Deep, Worn, response_of}
use Rattle.ca_ets.specs.declared.command.Reply.{Reply}
use Rattle.ca_model.specs.declared.outcome.Changed.{Changed}
use Rattle.ca_model.specs.declared.outcome.Outcome.{Outcome}
use Rattle.ca_model.specs.declared.outcome.Outcome.TheVariants as outcome
use Rattle.ca_model.specs.Known.{Known, IsSameStore}
use Rattle.ca_model.specs.Promises.{Promises}
use Rattle.ca_table.specs.ComesTo.{HasOutcome}
use Rattle.ca_table.specs.Made.{HasMadeFor}

-- Behind such an outcome a command may be tried again.
abbrev pub IsTriedAgain : Outcome Reply → Type 0
IsTriedAgain (outcome.Done reply) = ⊥
IsTriedAgain (outcome.Busy spent) = Unit {0}
IsTriedAgain (outcome.Full why) = Unit {0}
IsTriedAgain (outcome.Deep level) = ⊥
IsTriedAgain (outcome.Worn counter) = ⊥

-- This outcome is answered so.
abbrev pub IsAnsweredSo : Outcome Reply → Answer → Type 0
IsAnsweredSo (outcome.Done reply) answer = answer ≡ Ok (response_of reply)
IsAnsweredSo (outcome.Busy spent) answer = ⊥
IsAnsweredSo (outcome.Full why) answer = answer ≡ Err Full
IsAnsweredSo (outcome.Deep level) answer = answer ≡ Err Deep
IsAnsweredSo (outcome.Worn counter) answer = answer ≡ Err Worn

module _ {S : Type 0} (knows : S → Known) (promises : Promises S) (asked : ℕ → S → S → Outcome Changed → Type 0) where
  -- One try of a command with some budget, behind which it is tried again.
  pub record IsTry (command : Command) (s t : S) : Type 0 where
    pub budget : ℕ
    pub outcome : Outcome Reply
    pub again : IsTriedAgain outcome
    pub comes : HasOutcome (knows s) (knows t) budget command outcome
    pub made : HasMadeFor knows promises asked command s t outcome

  -- So many of them, one after the other.
  abbrev pub HasBeenTried : ℕ → Command → S → S → Type 0
  HasBeenTried zero command s t = t ≡ s
  HasBeenTried (suc tries) command s t = (u : S) × HasBeenTried tries command s u × IsTry command u t

  -- A command was tried so often again, and its last try is answered so.
  pub record HasBeenAnswered (command : Command) (answer : Answer) (s t : S) : Type 0 where
    pub again : ℕ
    pub before : S
    pub tries : HasBeenTried again command s before
    pub outcome : Outcome Reply
    pub made : HasMadeFor knows promises asked command before t outcome
    pub answered : IsAnsweredSo outcome answer
    pub same : IsSameStore (knows s) (knows t)

  -- Each of these commands was answered so, one after the other, and between two of them nothing was done.
  abbrev pub HaveBeenAnswered : List Command → List Answer → S → S → Type 0
  HaveBeenAnswered [] [] s t = t ≡ s
  HaveBeenAnswered (command ∷ commands) (answer ∷ answers) s t =
      (u : S) × HasBeenAnswered command answer s u × HaveBeenAnswered commands answers u t
  HaveBeenAnswered commands answers s t = ⊥
