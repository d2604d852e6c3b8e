-- What a line holds, without its end: no command, a command, or something for which it is refused.
use Rattle.std.specs.Prelude.{◌≡◌, ℕ, ◌+◌, not, ◌==◌, nat_lt, List, [], ◌∷◌, length, Option, None, Some, Ok, MatchBool, if◌then◌else◌}
use Rattle.std.specs.Str.{is_utf8}
use Rattle.std.specs.Str.Lossy.{utf8_valid_len}
use Rattle.ca_ets.specs.Command.{Command}
use Rattle.ca_text.specs.Grammar.{skip}
use Rattle.ca_cmd.specs.declared.line.TheConstants.{MOST_LINE_BYTES}
use Rattle.ca_cmd.specs.declared.fault.LineWhy.TheVariants.{LineTooLong, NotUtf8}
use Rattle.ca_cmd.specs.Argument.{Found, IsThen, IsAfter, refused}
use Rattle.ca_cmd.specs.Word.{IsCommand}

-- the byte that begins a comment
abbrev pub percent : ℕ
percent = 37

-- the bytes behind the blanks at the front, unless the line is refused for its length or its bytes
abbrev pub text_in : List ℕ → Found (List ℕ)
text_in line =
    if nat_lt MOST_LINE_BYTES (length line) then refused LineTooLong (MOST_LINE_BYTES + 1)
    else (if not (is_utf8 line) then refused NotUtf8 (utf8_valid_len line + 1)
    else Ok (skip line))

-- what follows a command
abbrev pub IsHeld : Command → Found (Option Command) → Type 0
IsHeld command found = found ≡ Ok (Some command)

-- Nothing at all, and a comment, is no command.
abbrev pub IsText : ℕ → List ℕ → Found (Option Command) → Type 0
IsText size [] found = found ≡ Ok None
IsText size (b ∷ text) found =
    MatchBool (b == percent) (found ≡ Ok None) (IsAfter (IsCommand size (b ∷ text)) IsHeld found)

abbrev pub IsLine : List ℕ → Found (Option Command) → Type 0
IsLine line found = IsThen (text_in line) (IsText (length line)) found
