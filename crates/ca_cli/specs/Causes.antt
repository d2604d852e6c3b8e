-- Why a call of the program ends early.
use Rattle.std.specs.Prelude.{◌≡◌, ◌⊎◌, ℕ, ◌+◌, ◌-◌, ◌≤◌, List, [], ◌∷◌, ◌++◌, length, Result, Ok, Err}
use Rattle.ca_outside.specs.Fetches.{fetched}
use Rattle.ca_outside.specs.Known.{Tells, IsOver}
use Rattle.ca_outside.specs.declared.shelf.FetchFault.{FetchFault}
use Rattle.ca_outside.specs.declared.shelf.FetchFault.TheVariants as fault
use Rattle.ca_cmd.specs.File.{Numbered, IsRefusedAt}
use Rattle.ca_cmd.specs.declared.fault.LineWhy.{LineWhy}
use Rattle.ca_words.specs.Grammar.{Request, Files}
use Rattle.ca_words.specs.declared.tree.TreeOptions.{TreeOptions}
use Rattle.ca_cli.specs.Accepted.{AreAccepted, IsAccepted, all_well, most_bytes, total_length}
use Rattle.ca_cli.specs.Call.{Call, Adds, Asks, HasFailed}
use Rattle.ca_cli.specs.declared.status.Status.{Status}
use Rattle.ca_cli.specs.declared.status.Status.TheVariants.{Done, Usage, ShelfFault, SinkFault, BadLine, NoMemory, TooLong}

-- The files before this one were fetched well and accepted. This one was fetched last, and the fetch ended so.
pub record IsReached (call : Call) (number : ℕ) (end : Result (Unit {0}) FetchFault) : Type 0 where
  pub keypos : ℕ
  pub names : List (List ℕ)
  pub options : TreeOptions
  pub asked : Asks call (Files keypos names) options
  pub earlier : List (List ℕ)
  pub name : List ℕ
  pub later : List (List ℕ)
  pub named : names ≡ earlier ++ name ∷ later
  pub place : number ≡ length earlier + 1
  pub files : List (List ℕ)
  pub lines : List (List Numbered)
  pub accepted : AreAccepted call.content earlier files lines
  pub fetches : Adds call.shelf (all_well earlier ++ fetched name end ∷ [])

-- This file was fetched, within the limit, and is refused at this byte of this line.
pub record IsRefused (call : Call) (number line at : ℕ) : Type 0 where
  pub reached : IsReached call number (Ok tt)
  pub file : List ℕ
  pub fetched : Tells (call.content reached.name) file
  pub limit : total_length reached.files + length file ≤ most_bytes
  pub why : LineWhy
  pub refused : IsRefusedAt file line at why

-- This file has more bytes than the files before it leave.
pub record IsTooLong (call : Call) (number : ℕ) : Type 0 where
  pub reached : IsReached call number (Err fault.TooLong)
  pub over : IsOver (most_bytes - total_length reached.files) (call.content reached.name)

-- Nothing was fetched, or the files up to some file, or all lines were there.
abbrev pub IsStopped : Call → Type 0
IsStopped call = Adds call.shelf [] ⊎ ((number : ℕ) × (end : Result (Unit {0}) FetchFault) × IsReached call number end) ⊎ IsAccepted call

-- the cause of each status of a call that ends early, with the fetches that were made
abbrev pub IsCause : Call → Status → Type 0
IsCause call Done = ⊥
IsCause call Usage = ((request : Request) (options : TreeOptions) → ¬ Asks call request options) × Adds call.shelf []
IsCause call (ShelfFault file) = IsReached call file (Err fault.Failed) × HasFailed call.shelf
IsCause call SinkFault = ⊥
IsCause call (BadLine file line at) = IsRefused call file line at
IsCause call NoMemory = IsStopped call
IsCause call (TooLong file) = IsTooLong call file
