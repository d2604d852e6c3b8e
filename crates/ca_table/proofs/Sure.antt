-- Over a store that is sure and that nobody else edits each call is done; and what calls come to that leave their client's batches.
use Rattle.std.proofs.Common.{◌≡◌, ℕ, true, inl, inr, refl, Result, Ok, Err}
use Rattle.ca_term.specs.Code.{code_of}
use Rattle.ca_ets.specs.Command.{Command, Continuation}
use Rattle.ca_ets.specs.Nature.{Asking, ReadsKey, ReadsBy, ReadsMany, Edits, EditsBy, EditsRead, Puts}
use Rattle.ca_ets.specs.Step.{nature_of}
use Rattle.ca_ets.specs.declared.command.Reply.{Reply}
use Rattle.ca_model.specs.declared.outcome.Outcome.{Outcome}
use Rattle.ca_model.specs.declared.outcome.Outcome.TheVariants as outcome
use Rattle.ca_model.specs.declared.outcome.Spent.{Spent}
use Rattle.ca_model.specs.Known.{Known}
use Rattle.ca_explain.proofs.Alone.{never_refused, never_overtaken}
use Rattle.ca_table.specs.ComesTo.{ComesTo, ComesToFrom, IsOvertaken, SureAndAloneIsDone, SureAndAloneIsDoneFrom}

pub not_overtaken : (a b : Known) (asks : Asking) (spent : Spent) → a.alone ≡ true → IsOvertaken a b asks spent → ⊥
not_overtaken a b ReadsKey spent alone h = h
not_overtaken a b (ReadsBy s) spent alone h = h
not_overtaken a b ReadsMany spent alone h = h
not_overtaken a b Edits spent alone h = h
not_overtaken a b (EditsBy op) spent alone h = h
not_overtaken a b (EditsRead k) spent alone h = never_overtaken a b (code_of k) alone h.1
not_overtaken a b Puts spent alone h = h

-- Each call is done.
pub all_done : SureAndAloneIsDone
all_done a b budget c (outcome.Done reply) sure alone h = tt
all_done a b budget c (outcome.Busy spent) sure alone (inl h) = absurd (never_refused a b _ sure h.1)
all_done a b budget c (outcome.Busy spent) sure alone (inr h) = absurd (not_overtaken a b (nature_of c).asks spent alone h)
all_done a b budget c (outcome.Full cause) sure alone h = absurd (never_refused a b _ sure h.1)
all_done a b budget c (outcome.Deep level) sure alone h = absurd (never_refused a b _ sure h.1)
all_done a b budget c (outcome.Worn counter) sure alone h = absurd (never_refused a b _ sure h.1)

-- So is each call of a client whose batches may move.
pub all_done_from : SureAndAloneIsDoneFrom
all_done_from a b budget c before behind (outcome.Done reply) sure alone h = tt
all_done_from a b budget c before behind (outcome.Busy spent) sure alone h = all_done a b budget c (outcome.Busy spent) sure alone h.0
all_done_from a b budget c before behind (outcome.Full cause) sure alone h = all_done a b budget c (outcome.Full cause) sure alone h.0
all_done_from a b budget c before behind (outcome.Deep level) sure alone h = all_done a b budget c (outcome.Deep level) sure alone h.0
all_done_from a b budget c before behind (outcome.Worn counter) sure alone h = all_done a b budget c (outcome.Worn counter) sure alone h.0

-- What a call comes to that leaves its client's batches where they are.
pub unmoved : {Lack : Type 0} (a b : Known) (budget : ℕ) (c : Command) (k : Continuation) (r : Result (Outcome Reply) Lack) → ComesTo a b budget c r
    → ComesToFrom a b budget c k k r
unmoved a b budget c k (Ok (outcome.Done reply)) h = h k
unmoved a b budget c k (Ok (outcome.Busy spent)) h = (h, refl)
unmoved a b budget c k (Ok (outcome.Full cause)) h = (h, refl)
unmoved a b budget c k (Ok (outcome.Deep level)) h = (h, refl)
unmoved a b budget c k (Ok (outcome.Worn counter)) h = (h, refl)
unmoved a b budget c k (Err lack) h = (h, refl)
