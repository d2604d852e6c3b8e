-- Calls that are done, or find no memory.
use Rattle.std.specs.Prelude.{◌≡◌, ℕ, ◌-◌, ◌≤◌, List, [], ◌∷◌, length}
use Rattle.ca_outside.specs.Known.{Content, Holds}
use Rattle.ca_cmd.specs.File.{Numbered, IsFileOf}
use Rattle.ca_words.specs.Grammar.{Request, Files, Generated}
use Rattle.ca_words.specs.declared.tree.TreeOptions.{TreeOptions}
use Rattle.ca_cli.specs.Accepted.{most_bytes}
use Rattle.ca_cli.specs.Call.{Call, Asks}
use Rattle.ca_cli.specs.declared.status.Status.{Status}
use Rattle.ca_cli.specs.declared.status.Status.TheVariants.{Done, Usage, ShelfFault, SinkFault, BadLine, NoMemory, TooLong}

-- The shelf tells a file for each of these names, which holds lines and fits into the room that those before it leave.
abbrev pub AreHeld : (List ℕ → Content) → List (List ℕ) → ℕ → Type 0
AreHeld content [] room = Unit {0}
AreHeld content (name ∷ names) room = (file : List ℕ) × (lines : List Numbered)
    × (content name ≡ Holds file) × (length file ≤ room) × IsFileOf file lines × AreHeld content names (room - length file)

-- The shelf holds the files that are asked for, within the limit.
abbrev pub IsThere : (List ℕ → Content) → Request → Type 0
IsThere content (Files keypos names) = AreHeld content names most_bytes
IsThere content (Generated seed clients count) = Unit {0}

-- The words are a command line, and the shelf holds what they ask for.
pub record IsWellFormed (call : Call) : Type 0 where
  pub request : Request
  pub options : TreeOptions
  pub asked : Asks call request options
  pub there : IsThere call.content request

-- The answers and the table were printed, or memory was not found.
abbrev pub IsDoneOrWant : Status → Type 0
IsDoneOrWant Done = Unit {0}
IsDoneOrWant Usage = ⊥
IsDoneOrWant (ShelfFault file) = ⊥
IsDoneOrWant SinkFault = ⊥
IsDoneOrWant (BadLine file line at) = ⊥
IsDoneOrWant NoMemory = Unit {0}
IsDoneOrWant (TooLong file) = ⊥
