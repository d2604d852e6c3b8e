-- Parts of a command file: what is read from a byte on where a line begins, before which so many lines stand.
use Rattle.std.specs.Prelude.{◌≡◌, ℕ, ◌+◌, ◌≤◌, ◌<◌, List, ◌∷◌, ◌++◌, length, drop, slice_index_or, Err, MatchResult}
use Rattle.ca_cmd.specs.Content.{IsLine}
use Rattle.ca_cmd.specs.File.{Numbered, lines_of, AreLines}
use Rattle.ca_cmd.specs.Kept.{IsInText, Keeps}
use Rattle.ca_cmd.specs.Lines.{numbered}
use Rattle.ca_cmd.specs.declared.at_once.Piece.{Piece}
use Rattle.ca_cmd.specs.declared.fault.FileFault.{FileFault}
use Rattle.ca_cmd.specs.declared.fault.FileFault.TheVariants.{BadLine, NoMemory}
use Rattle.ca_cmd.specs.declared.fault.LineWhy.{LineWhy}
use Rattle.ca_cmd.specs.declared.line.Line.{Line}
use Rattle.ca_cmd.specs.declared.part.Part.{Part}

-- The part has the lines from this byte to its end, none of which is refused, and keeps those that hold commands.
pub record IsPart (file : List ℕ) (from before : ℕ) (part : Part) : Type 0 where
  pub texts : List (List ℕ)
  pub lines : List Line
  pub good : AreLines (before + 1) texts (numbered lines)
  pub whole : lines_of (drop from file) ≡ texts ++ lines_of (drop part.end file)
  pub counted : part.lines ≡ before + length texts
  pub keeps : Keeps (IsInText file) part.held lines
  pub within : part.end ≤ length file
  pub few : part.lines ≤ part.end
  pub fewer : part.held.adding + before ≤ part.lines

-- From this byte on the line of this number is the first one that is refused.
pub record IsRefusedFrom (file : List ℕ) (from before number at : ℕ) (why : LineWhy) : Type 0 where
  pub texts : List (List ℕ)
  pub commands : List Numbered
  pub line : List ℕ
  pub after : List (List ℕ)
  pub whole : lines_of (drop from file) ≡ texts ++ line ∷ after
  pub good : AreLines (before + 1) texts commands
  pub bad : IsLine line (Err (record { at = at; why = why }))
  pub place : number ≡ before + length texts + 1

abbrev pub IsFaultFrom : List ℕ → ℕ → ℕ → FileFault → Type 0
IsFaultFrom file from before (BadLine line at why) = IsRefusedFrom file from before line at why
IsFaultFrom file from before NoMemory = Unit {0}

-- This is what is read from where the part is cut.
abbrev pub IsReadAs : List ℕ → Piece → Type 0
IsReadAs file piece =
    MatchResult piece.outcome (λ part. IsPart file piece.cut.from piece.cut.before part) (λ e. IsFaultFrom file piece.cut.from piece.cut.before e)

abbrev pub AreReadAs : List ℕ → List Piece → Type 0
AreReadAs file pieces = (place : ℕ) (d : Piece) → place < length pieces → IsReadAs file (slice_index_or pieces place d)

-- One part is the other one with what stands behind it.
pub record IsJoined (before behind after : Part) : Type 0 where
  pub places : after.held.places.items ≡ before.held.places.items ++ behind.held.places.items
  pub adding : after.held.adding ≡ before.held.adding + behind.held.adding
  pub lines : after.lines ≡ behind.lines
  pub end : after.end ≡ behind.end
