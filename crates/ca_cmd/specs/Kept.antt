-- How lines are kept: each by where its text begins in the file, or by the number before its draws. The commands are made from these.
use Rattle.std.specs.Prelude.{◌≡◌, ℕ, ◌+◌, ◌-◌, ◌<◌, Bool, List, [], ◌∷◌, ◌++◌, length, drop, Option, None, Some, Ok, if◌then◌else◌}
use Rattle.ca_ets.specs.Command.{Command}
use Rattle.ca_cmd.specs.Adding.{may_add, adding_in}
use Rattle.ca_cmd.specs.Content.{IsLine}
use Rattle.ca_cmd.specs.File.{lines_of, commands_in}
use Rattle.ca_cmd.specs.Generator.{drawn_command}
use Rattle.ca_cmd.specs.Lines.{numbered}
use Rattle.ca_cmd.specs.declared.kept.Held.{Held}
use Rattle.ca_cmd.specs.declared.kept.Place.{Place}
use Rattle.ca_cmd.specs.declared.kept.Source.{Source}
use Rattle.ca_cmd.specs.declared.kept.Source.TheVariants.{Text, Draws}
use Rattle.ca_cmd.specs.declared.line.Line.{Line}

-- The line that begins at this byte of a file, counted from 0, holds this command.
abbrev pub HoldsAt : List ℕ → ℕ → Command → Type 0
HoldsAt file start command = (text : List ℕ) × (others : List (List ℕ)) × (lines_of (drop start file) ≡ text ∷ others) × IsLine text (Ok (Some command))

-- the line that is kept at a place, in a file and among a client's draws
abbrev pub IsInText : List ℕ → Place → Line → Type 0
IsInText file place line = (line.number ≡ place.number) × (place.start < length file) × HoldsAt file place.start line.cmd

abbrev pub IsDrawn : ℕ → Place → Line → Type 0
IsDrawn client place line = (line.number ≡ place.number) × (line.cmd ≡ drawn_command client place.number place.start)

abbrev pub IsFrom : Source → Place → Line → Type 0
IsFrom (Text file) place line = IsInText file.items place line
IsFrom (Draws client) place line = IsDrawn client place line

-- These lines are kept at these places, one at each.
abbrev pub AreAt : (Place → Line → Type 0) → List Place → List Line → Type 0
AreAt Is [] lines = lines ≡ []
AreAt Is (place ∷ places) [] = ⊥
AreAt Is (place ∷ places) (line ∷ lines) = Is place line × AreAt Is places lines

-- These are the lines that are kept, and so many of their commands may add an object.
pub record Keeps (Is : Place → Line → Type 0) (held : Held) (lines : List Line) : Type 0 where
  pub at : AreAt Is held.places.items lines
  pub counted : held.adding ≡ adding_in (commands_in (numbered lines))

-- One more place is kept.
pub record IsAdded (place : Place) (adds : Bool) (before after : Held) : Type 0 where
  pub places : after.places.items ≡ before.places.items ++ place ∷ []
  pub adding : after.adding ≡ before.adding + (if adds then 1 else 0)

abbrev pub IsNoted : Place → Option Command → Held → Held → Type 0
IsNoted place None before after = after ≡ before
IsNoted place (Some command) before after = IsAdded place (may_add command) before after

-- The line is no refused one, and its place is kept if it holds a command.
abbrev pub IsTaken : Place → List ℕ → Held → Held → Type 0
IsTaken place text before after = (content : Option Command) × IsLine text (Ok content) × IsNoted place content before after

-- These bytes are the last ones of those.
abbrev pub IsEndOf : List ℕ → List ℕ → Type 0
IsEndOf rest bytes = rest ≡ drop (length bytes - length rest) bytes
