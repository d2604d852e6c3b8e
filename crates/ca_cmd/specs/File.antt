-- Command files: their lines, the commands in them, and where and why a file is refused.
use Rattle.std.specs.Prelude.{◌≡◌, ℕ, ◌+◌, ◌==◌, List, [], ◌∷◌, ◌++◌, length, map, Option, None, Some, Ok, Err, if◌then◌else◌}
use Rattle.ca_ets.specs.Command.{Command}
use Rattle.ca_cmd.specs.declared.fault.LineWhy.{LineWhy}
use Rattle.ca_cmd.specs.Content.{IsLine}

-- a command, with the number of its line
pub record Numbered : Type 0 where
  pub number : ℕ
  pub command : Command

abbrev pub commands_in : List Numbered → List Command
commands_in lines = map (λ (l : Numbered). l.command) lines

-- one more byte in front of the first line
abbrev pub with_byte : ℕ → List (List ℕ) → List (List ℕ)
with_byte b [] = (b ∷ []) ∷ []
with_byte b (line ∷ lines) = (b ∷ line) ∷ lines

-- the bytes LF and CR
abbrev pub lf : ℕ
lf = 10

abbrev pub cr : ℕ
cr = 13

-- LF ends a line; what stands behind the last LF is a line where it isn't empty
unfoldable pub cut_lines : List ℕ → List (List ℕ)
cut_lines [] = []
cut_lines (b ∷ bytes) = if b == lf then [] ∷ cut_lines bytes else with_byte b (cut_lines bytes)

-- one CR at a line's end doesn't belong to the line
unfoldable pub without_cr : List ℕ → List ℕ
without_cr [] = []
without_cr (b ∷ []) = if b == cr then [] else b ∷ []
without_cr (b ∷ c ∷ line) = b ∷ without_cr (c ∷ line)

abbrev pub lines_of : List ℕ → List (List ℕ)
lines_of file = map without_cr (cut_lines file)

-- the command that a line of this number holds, if it holds one
abbrev pub held_at : ℕ → Option Command → List Numbered
held_at number None = []
held_at number (Some command) = record { number = number; command = command } ∷ []

-- Each of these lines, of which the first has this number, holds a command or none, and these are the commands.
abbrev pub AreLines : ℕ → List (List ℕ) → List Numbered → Type 0
AreLines first [] commands = commands ≡ []
AreLines first (line ∷ lines) commands =
    (held : Option Command) × (others : List Numbered) × IsLine line (Ok held) × AreLines (first + 1) lines others × (commands ≡ held_at first held ++ others)

abbrev pub IsFileOf : List ℕ → List Numbered → Type 0
IsFileOf file commands = AreLines 1 (lines_of file) commands

-- The first line that is refused has this number, and it is refused at this byte of it, both counted from 1, for this reason.
pub record IsRefusedAt (file : List ℕ) (number at : ℕ) (why : LineWhy) : Type 0 where
  pub before : List (List ℕ)
  pub commands : List Numbered
  pub line : List ℕ
  pub after : List (List ℕ)
  pub whole : lines_of file ≡ before ++ line ∷ after
  pub good : AreLines 1 before commands
  pub bad : IsLine line (Err (record { at = at; why = why }))
  pub place : number ≡ length before + 1
