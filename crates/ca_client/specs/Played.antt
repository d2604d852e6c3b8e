-- What a client's commands come to over any store: what its log tells, and how its refusals are counted.
use Rattle.std.specs.Prelude.{◌≡◌, ℕ, ◌+◌, ◌≤◌, List, [], ◌∷◌, ◌++◌, length, take, None, Some, Ok, Err}
use Rattle.ca_ets.specs.Command.{Command, Continuation, Never, Answer, Full, Deep, Worn}
use Rattle.ca_model.specs.Event.{Entry}
use Rattle.ca_model.specs.History.{History, after}
use Rattle.ca_model.specs.Known.{Known, Counts, IsSameStore, seen_with}
use Rattle.ca_explain.specs.Carries.{IsCarried}
use Rattle.ca_explain.specs.Clients.{Part, from_event, log_of, AreReads, Plays}
use Rattle.ca_client.specs.Tries.{Tries, AreTries, AreAllTries, with_tries, with_all_tries}

-- how many of the answers refuse for want of room, for want of levels, and because a counter can rise no more
abbrev pub full_in : List Answer → ℕ
full_in [] = 0
full_in (Ok response ∷ answers) = full_in answers
full_in (Err Full ∷ answers) = 1 + full_in answers
full_in (Err Deep ∷ answers) = full_in answers
full_in (Err Worn ∷ answers) = full_in answers

abbrev pub deep_in : List Answer → ℕ
deep_in [] = 0
deep_in (Ok response ∷ answers) = deep_in answers
deep_in (Err Full ∷ answers) = deep_in answers
deep_in (Err Deep ∷ answers) = 1 + deep_in answers
deep_in (Err Worn ∷ answers) = deep_in answers

abbrev pub worn_in : List Answer → ℕ
worn_in [] = 0
worn_in (Ok response ∷ answers) = worn_in answers
worn_in (Err Full ∷ answers) = worn_in answers
worn_in (Err Deep ∷ answers) = worn_in answers
worn_in (Err Worn ∷ answers) = 1 + worn_in answers

-- The store counted at least so many refusals of each kind as these answers tell.
pub record AreCounted (a b : Counts) (answers : List Answer) : Type 0 where
  pub full : a.full + full_in answers ≤ b.full
  pub deep : a.deep + deep_in answers ≤ b.deep
  pub worn : a.worn + worn_in answers ≤ b.worn

-- These edits were learnt of, and these entries came into the log.
pub record HasGrown (a b : Known) (learnt : History) (entries : List Entry) : Type 0 where
  pub same : IsSameStore a b
  pub map : b.map ≡ after learnt a.map
  pub seen : b.seen ≡ seen_with a.seen learnt entries

-- A command with this part of the log was answered so: a reply is that of the step which the part carries; a refused command has no event and hands
-- on its continuation.
abbrev pub IsPlayed : ℕ → Continuation → Command → Answer → Part → Continuation → Type 0
IsPlayed keypos before command (Ok response) part behind = IsCarried keypos part.event before command response behind
IsPlayed keypos before command (Err refusal) part behind = (part.event ≡ None) × (behind ≡ before)

-- One command was answered so. All tries of it wrote one part into the log: reads, and behind them its event, where it has one.
pub record HasAnswered (a b : Known) (before : Continuation) (command : Command) (answer : Answer) (behind : Continuation) : Type 0 where
  pub part : Part
  pub reads : AreReads part.left
  pub played : IsPlayed a.keypos before command answer part behind
  pub learnt : History
  pub grown : HasGrown a b learnt (part.left ++ from_event part.event [])
  pub tries : Tries
  pub tried : AreTries tries answer
  pub counts : b.counts ≡ with_tries tries a.counts

-- Some tries of a command read, and were refused.
pub record HasRead (a b : Known) : Type 0 where
  pub left : List Entry
  pub reads : AreReads left
  pub learnt : History
  pub grown : HasGrown a b learnt left

-- A client's commands were answered so, and these parts are what it added to its log.
pub record HasPlayed (a b : Known) (commands : List Command) (answers : List Answer) : Type 0 where
  pub parts : List Part
  pub plays : Plays a.keypos Never commands answers parts
  pub learnt : History
  pub grown : HasGrown a b learnt (log_of parts)
  pub tries : List Tries
  pub tried : AreAllTries tries answers
  pub counts : b.counts ≡ with_all_tries tries a.counts
  pub counted : AreCounted a.counts b.counts answers

-- Memory wasn't found. So many commands were answered before, which stands, and the next one's tries read.
pub record HasStopped (a b : Known) (commands : List Command) : Type 0 where
  pub done : ℕ
  pub before : done ≤ length commands
  pub answers : List Answer
  pub parts : List Part
  pub plays : Plays a.keypos Never (take done commands) answers parts
  pub left : List Entry
  pub reads : AreReads left
  pub learnt : History
  pub grown : HasGrown a b learnt (log_of parts ++ left)

-- Where the log was empty before, it is that of the parts.
abbrev pub LogsAreParts : Type 0
LogsAreParts = (a b : Known) (commands : List Command) (answers : List Answer) (before behind : History) (log : List Entry)
    (played : HasPlayed a b commands answers) → a.seen ≡ Some (record { history = before; log = [] })
    → b.seen ≡ Some (record { history = behind; log = log }) → log ≡ log_of played.parts
