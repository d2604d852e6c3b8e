-- Which calls a command makes of its table's store, told by what the store promises of them.
use Rattle.std.specs.Prelude.{◌≡◌, ◌⊎◌, ℕ, Bool, List, [], ◌∷◌, Option, None, Some, Result, Ok, Err}
use Rattle.ca_term.specs.Code.{code_of}
use Rattle.ca_term.specs.Object.{key_of}
use Rattle.ca_ets.specs.Command.{Command}
use Rattle.ca_ets.specs.Step.{nature_of}
use Rattle.ca_ets.specs.declared.command.Cmd.TheVariants.{Insert, InsertNew}
use Rattle.ca_ets.specs.declared.command.Reply.{Reply}
use Rattle.ca_model.specs.declared.outcome.Cause.{Cause}
use Rattle.ca_model.specs.declared.outcome.Cause.TheVariants as cause
use Rattle.ca_model.specs.declared.outcome.Changed.{Changed}
use Rattle.ca_model.specs.declared.outcome.Outcome.{Outcome}
use Rattle.ca_model.specs.declared.outcome.Outcome.TheVariants as outcome
use Rattle.ca_model.specs.declared.outcome.Spent.{Spent}
use Rattle.ca_model.specs.Answer.{IsDone, IsNeverDeep}
use Rattle.ca_model.specs.Edges.{Bound}
use Rattle.ca_model.specs.Known.{Known}
use Rattle.ca_model.specs.Promises.{Promises}
use Rattle.ca_model.specs.StoreMap.{Pair}
use Rattle.ca_table.specs.ComesTo.{IsOvertaken}

-- a call that can't edit: its budget, what it was handed, what it came to, and the bytes that it wrote
pub data Read : Type 0 where
  Reserves : Read
  Gets : ℕ → List ℕ → Outcome Bool → List ℕ → Read
  LooksAbove : ℕ → Bound → Outcome Bool → List ℕ → Read
  LooksBelow : ℕ → Bound → Outcome Bool → List ℕ → Read
  Opens : ℕ → Bound → Bound → ℕ → Outcome Bool → Read
  HandsOut : Read
  Closes : Read

-- a call that may edit; one that asks a function removes or changes by it
pub data Edit : Type 0 where
  Puts : ℕ → Pair → Outcome (Unit {0}) → Edit
  PutsNew : ℕ → Pair → Outcome Bool → Edit
  Removes : ℕ → List ℕ → Outcome Bool → List ℕ → Edit
  Asks : ℕ → Outcome Changed → Edit

-- the key that it may add, if any
abbrev pub added_by : Edit → Option (List ℕ)
added_by (Puts budget pair outcome) = Some pair.0
added_by (PutsNew budget pair outcome) = Some pair.0
added_by (Removes budget key outcome old) = None
added_by (Asks budget outcome) = None

-- why a call was refused, where it was
abbrev pub refusal_of : {T : Type 0} → Outcome T → Option Cause
refusal_of (outcome.Done x) = None
refusal_of (outcome.Busy spent) = Some (cause.Busy spent)
refusal_of (outcome.Full why) = Some (cause.Full why)
refusal_of (outcome.Deep level) = Some (cause.Deep level)
refusal_of (outcome.Worn counter) = Some (cause.Worn counter)

-- so of a read; one that looks for a key is never refused
abbrev pub refused_read : Read → Option Cause
refused_read Reserves = None
refused_read (Gets budget key outcome into) = None
refused_read (LooksAbove budget lo outcome into) = refusal_of outcome
refused_read (LooksBelow budget hi outcome into) = refusal_of outcome
refused_read (Opens budget lo hi want outcome) = refusal_of outcome
refused_read HandsOut = None
refused_read Closes = None

abbrev pub refused_by : Edit → Option Cause
refused_by (Puts budget pair outcome) = refusal_of outcome
refused_by (PutsNew budget pair outcome) = refusal_of outcome
refused_by (Removes budget key outcome old) = refusal_of outcome
refused_by (Asks budget outcome) = refusal_of outcome

-- the key that a command may add, which is the same at each try of it
abbrev pub added_key : ℕ → Command → Option (List ℕ)
added_key keypos (Insert object) = Some (code_of (key_of keypos object))
added_key keypos (InsertNew object) = Some (code_of (key_of keypos object))
added_key keypos command = None

-- It looks for one key.
abbrev pub IsByKey : Read → Type 0
IsByKey (Gets budget key outcome into) = Unit {0}
IsByKey read = ⊥

abbrev pub AreByKey : List Read → Type 0
AreByKey [] = Unit {0}
AreByKey (read ∷ reads) = IsByKey read × AreByKey reads

-- None of them was refused.
abbrev pub AreDone : List Read → Type 0
AreDone [] = Unit {0}
AreDone (read ∷ reads) = (refused_read read ≡ None) × AreDone reads

-- A refused command's answer is the refusal of its store's call.
abbrev pub answer_for : Cause → Outcome Reply
answer_for (cause.Busy spent) = outcome.Busy spent
answer_for (cause.Full why) = outcome.Full why
answer_for (cause.Deep level) = outcome.Deep level
answer_for (cause.Worn counter) = outcome.Worn counter

module _ {S : Type 0} (promises : Promises S) where
  abbrev pub IsRead : Read → S → S → Type 0
  IsRead Reserves s t = promises.reserve s t
  IsRead (Gets budget key outcome into) s t = promises.get budget s t key outcome into
  IsRead (LooksAbove budget lo outcome into) s t = promises.above budget s t lo outcome into
  IsRead (LooksBelow budget hi outcome into) s t = promises.below budget s t hi outcome into
  IsRead (Opens budget lo hi want outcome) s t = promises.range budget s t lo hi want outcome
  IsRead HandsOut s t = promises.found s t
  IsRead Closes s t = promises.close_run s t

  -- These were made, in order.
  abbrev pub AreReads : List Read → S → S → Type 0
  AreReads [] s t = t ≡ s
  AreReads (read ∷ reads) s t = (u : S) × IsRead read s u × AreReads reads u t

  -- Reads were made, if any, and none was refused.
  abbrev pub HasRead : S → S → Type 0
  HasRead s t = (reads : List Read) × AreDone reads × AreReads reads s t

  -- Behind such reads one more was made, the last one, and was refused so.
  abbrev pub HasReadUpTo : Cause → S → S → Type 0
  HasReadUpTo refusal s t = (u : S) × (read : Read) × HasRead s u × IsRead read u t × (refused_read read ≡ Some refusal)

  -- This is the answer then. Reads aren't refused for want of levels.
  abbrev pub HasRefusedRead : Outcome Reply → S → S → Type 0
  HasRefusedRead answer s t = (refusal : Cause) × (answer ≡ answer_for refusal) × IsNeverDeep answer × HasReadUpTo refusal s t

  abbrev pub HasReadKeys : S → S → Type 0
  HasReadKeys s t = (reads : List Read) × AreByKey reads × AreReads reads s t

  -- Before its call that may edit, a command that may add this key made room for it, and did nothing else; one that adds none looked for its key, if anything.
  abbrev pub HasPrepared : Option (List ℕ) → S → S → Type 0
  HasPrepared None s t = HasReadKeys s t
  HasPrepared (Some key) s t = promises.reserve s t

  -- It made no call that may edit, and is answered so: it is done, and so were its reads, or the last of these was refused, and so is the command. One that
  -- may add this key made no call at all, and is done.
  abbrev pub HasOnlyRead : Option (List ℕ) → Outcome Reply → S → S → Type 0
  HasOnlyRead None answer s t = (HasRead s t × IsDone answer) ⊎ HasRefusedRead answer s t
  HasOnlyRead (Some key) answer s t = (t ≡ s) × IsDone answer

module _ {S : Type 0} (promises : Promises S) (asked : ℕ → S → S → Outcome Changed → Type 0) where
  abbrev pub IsEdit : Edit → S → S → Type 0
  IsEdit (Puts budget pair outcome) s t = promises.put budget s t pair outcome
  IsEdit (PutsNew budget pair outcome) s t = promises.put_new budget s t pair outcome
  IsEdit (Removes budget key outcome old) s t = promises.remove budget s t key outcome old
  IsEdit (Asks budget outcome) s t = asked budget s t outcome

  -- A call that may edit, and may add this key, if any, was refused so, or was done.
  abbrev pub HasEdited : Option (List ℕ) → Option Cause → S → S → Type 0
  HasEdited adds refusal s t = (edit : Edit) × IsEdit edit s t × (added_by edit ≡ adds) × (refused_by edit ≡ refusal)

module _ {S : Type 0} (promises : Promises S) (asked : ℕ → S → S → Outcome Changed → Type 0) where
  -- Such a call was refused, and this is the command's answer.
  abbrev pub HasDeclined : Option (List ℕ) → Outcome Reply → S → S → Type 0
  HasDeclined adds answer s t = (refusal : Cause) × (answer ≡ answer_for refusal) × HasEdited promises asked adds (Some refusal) s t

module _ {S : Type 0} (knows : S → Known) (promises : Promises S) (asked : ℕ → S → S → Outcome Changed → Type 0) (command : Command) (s t : S) where
  -- A call that may edit was refused, and so is the command; or it was done, and so is the command, or it was overtaken.
  abbrev pub IsAnswerTo : Option Cause → Outcome Reply → Type 0
  IsAnswerTo (Some refusal) answer = answer ≡ answer_for refusal
  IsAnswerTo None answer = IsDone answer
      ⊎ ((spent : Spent) × (answer ≡ outcome.Busy spent) × IsOvertaken (knows s) (knows t) (nature_of command).asks spent)

  -- The command made room or looked for its key, and the last of its calls may edit.
  pub record HasReadAndEdited (answer : Outcome Reply) : Type 0 where
    pub between : S
    pub prepared : HasPrepared promises (added_key (knows s).keypos command) s between
    pub refusal : Option Cause
    pub edited : HasEdited promises asked (added_key (knows s).keypos command) refusal between t
    pub answered : IsAnswerTo refusal answer

  -- The command only read, or made one call behind its reads that may edit. Where memory lacked it only read, and no read was refused.
  abbrev pub HasMadeFor : Outcome Reply → Type 0
  HasMadeFor answer = HasOnlyRead promises (added_key (knows s).keypos command) answer s t ⊎ HasReadAndEdited answer

  abbrev pub HasMade : {Lack : Type 0} → Result (Outcome Reply) Lack → Type 0
  HasMade (Ok answer) = HasMadeFor answer
  HasMade (Err lack) = HasRead promises s t
