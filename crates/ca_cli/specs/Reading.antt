-- What one file comes to that is to be fetched and read.
use Rattle.std.specs.Prelude.{◌≡◌, ℕ, ◌≤◌, List, [], ◌∷◌, length, Result, Ok, Err}
use Rattle.ca_outside.specs.Fetches.{Fetched, fetched}
use Rattle.ca_outside.specs.Known.{Content, Tells, IsOver}
use Rattle.ca_outside.specs.declared.shelf.FetchFault.{FetchFault}
use Rattle.ca_outside.specs.declared.shelf.FetchFault.TheVariants as fault
use Rattle.ca_cmd.specs.File.{Numbered, IsFileOf, IsRefusedAt}
use Rattle.ca_cmd.specs.declared.fault.LineWhy.{LineWhy}
use Rattle.ca_cli.specs.Call.{Change, Adds, HasFailed}
use Rattle.ca_cli.specs.declared.status.Status.{Status}
use Rattle.ca_cli.specs.declared.status.Status.TheVariants.{Done, Usage, ShelfFault, SinkFault, BadLine, NoMemory, TooLong}

-- The content was fetched within the room, has this many bytes, and holds these lines.
pub record IsRead (content : Content) (room : ℕ) (lines : List Numbered) (count : ℕ) : Type 0 where
  pub file : List ℕ
  pub fetched : Tells content file
  pub counted : count ≡ length file
  pub fits : count ≤ room
  pub read : IsFileOf file lines

-- The content was fetched within the room, and is refused at this byte of this line.
pub record IsBad (content : Content) (room line at : ℕ) : Type 0 where
  pub file : List ℕ
  pub fetched : Tells content file
  pub fits : length file ≤ room
  pub why : LineWhy
  pub refused : IsRefusedAt file line at why

-- a file to be fetched: its number, its name, its content, and the room for it
pub record Wanted : Type 0 where
  pub number : ℕ
  pub name : List ℕ
  pub content : Content
  pub room : ℕ

abbrev pub wanted_of : ℕ → List ℕ → Content → ℕ → Wanted
wanted_of number name content room = record { number = number; name = name; content = content; room = room }

-- The file was fetched once, and the fetch ended so.
abbrev pub IsFetched : Change Fetched → Wanted → Result (Unit {0}) FetchFault → Type 0
IsFetched shelf wanted end = Adds shelf (fetched wanted.name end ∷ [])

-- the cause of each status that a file can come to, and its fetch
abbrev pub IsFault : Change Fetched → Wanted → Status → Type 0
IsFault shelf wanted Done = ⊥
IsFault shelf wanted Usage = ⊥
IsFault shelf wanted (ShelfFault file) = (file ≡ wanted.number) × HasFailed shelf × IsFetched shelf wanted (Err fault.Failed)
IsFault shelf wanted SinkFault = ⊥
IsFault shelf wanted (BadLine file line at) = (file ≡ wanted.number) × IsBad wanted.content wanted.room line at × IsFetched shelf wanted (Ok tt)
IsFault shelf wanted NoMemory = (end : Result (Unit {0}) FetchFault) × IsFetched shelf wanted end
IsFault shelf wanted (TooLong file) = (file ≡ wanted.number) × IsOver wanted.room wanted.content × IsFetched shelf wanted (Err fault.TooLong)
