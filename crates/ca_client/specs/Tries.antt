-- By which refusals the tries of a command ended, and when it is tried again.
use Rattle.std.specs.Prelude.{◌≡◌, ◌⊎◌, ℕ, suc, ◌+◌, ◌*◌, ◌≤◌, ◌<◌, min, List, [], ◌∷◌, Option, None, Some, IsSome, Ok, Err}
use Rattle.ca_ets.specs.Command.{Answer, Full, Deep, Worn}
use Rattle.ca_model.specs.declared.outcome.Cause.{Cause}
use Rattle.ca_model.specs.declared.outcome.Cause.TheVariants as cause
use Rattle.ca_model.specs.Known.{Counts, one_more}

-- the refusals of one command's tries: those behind which it was tried again, in order, and the one that is its answer, where it is refused
pub record Tries : Type 0 where
  pub again : List Cause
  pub last : Option Cause

-- the budget of the next try behind one that spent this budget
abbrev pub doubled : ℕ → ℕ
doubled budget = min (2 * budget) 2147483648

-- The command was tried again behind each of these, of which the first had this budget at least, and so many waits before it: behind one that was
-- busy with twice the budget, and behind one that found no room while another pass lagged after a wait, 1,000 times at most.
abbrev pub AreTriedAgain : ℕ → ℕ → List Cause → Type 0
AreTriedAgain budget waits [] = Unit {0}
AreTriedAgain budget waits (cause.Busy spent ∷ more) =
    (budget ≤ spent.lost + spent.helped + spent.passed) × AreTriedAgain (doubled budget) waits more
AreTriedAgain budget waits (cause.Full why ∷ more) = IsSome why.lag × (waits < 1000) × AreTriedAgain budget (suc waits) more
AreTriedAgain budget waits (cause.Deep level ∷ more) = ⊥
AreTriedAgain budget waits (cause.Worn counter ∷ more) = ⊥

-- how many waits there were
abbrev pub waits_in : List Cause → ℕ
waits_in [] = 0
waits_in (cause.Busy spent ∷ more) = waits_in more
waits_in (cause.Full why ∷ more) = suc (waits_in more)
waits_in (cause.Deep level ∷ more) = waits_in more
waits_in (cause.Worn counter ∷ more) = waits_in more

-- The answer is a reply and no refusal came last, or it is the last refusal: that for want of room where no other pass lagged, or behind all waits.
abbrev pub IsAnsweredBy : ℕ → Option Cause → Answer → Type 0
IsAnsweredBy waits None (Ok response) = Unit {0}
IsAnsweredBy waits None (Err refusal) = ⊥
IsAnsweredBy waits (Some (cause.Full why)) (Err Full) = (why.lag ≡ None) ⊎ (waits ≡ 1000)
IsAnsweredBy waits (Some (cause.Deep level)) (Err Deep) = Unit {0}
IsAnsweredBy waits (Some (cause.Worn counter)) (Err Worn) = Unit {0}
IsAnsweredBy waits (Some other) answer = ⊥

-- A command's tries ended so, and came to this answer. Its first budget was 64. A `take` that was overtaken is tried again as a busy command is,
-- and is no refusal of the store.
pub record AreTries (tries : Tries) (answer : Answer) : Type 0 where
  pub again : AreTriedAgain 64 0 tries.again
  pub answered : IsAnsweredBy (waits_in tries.again) tries.last answer

-- So it was with each command.
abbrev pub AreAllTries : List Tries → List Answer → Type 0
AreAllTries [] [] = Unit {0}
AreAllTries (tries ∷ all) (answer ∷ answers) = AreTries tries answer × AreAllTries all answers
AreAllTries all answers = ⊥

-- the counts with these refusals, in order
abbrev pub with_refusals : List Cause → Counts → Counts
with_refusals [] counts = counts
with_refusals (refusal ∷ more) counts = with_refusals more (one_more refusal counts)

abbrev pub with_last : Option Cause → Counts → Counts
with_last None counts = counts
with_last (Some refusal) counts = one_more refusal counts

abbrev pub with_tries : Tries → Counts → Counts
with_tries tries counts = with_last tries.last (with_refusals tries.again counts)

abbrev pub with_all_tries : List Tries → Counts → Counts
with_all_tries [] counts = counts
with_all_tries (tries ∷ all) counts = with_all_tries all (with_tries tries counts)
