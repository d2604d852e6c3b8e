-- Bytes of the notation, by their names.
use Rattle.std.specs.Prelude.{ℕ}
use Rattle.std.specs.Str.{byte}

abbrev pub tab : ℕ
tab = 9

abbrev pub line_feed : ℕ
line_feed = 10

abbrev pub carriage_return : ℕ
carriage_return = 13

abbrev pub space : ℕ
space = byte " "

abbrev pub double_quote : ℕ
double_quote = byte "\""

abbrev pub single_quote : ℕ
single_quote = byte "'"

abbrev pub comma : ℕ
comma = byte ","

abbrev pub minus_sign : ℕ
minus_sign = byte "-"

abbrev pub digit_zero : ℕ
digit_zero = byte "0"

abbrev pub open_angle : ℕ
open_angle = byte "<"

abbrev pub close_angle : ℕ
close_angle = byte ">"

abbrev pub at_sign : ℕ
at_sign = byte "@"

abbrev pub open_bracket : ℕ
open_bracket = byte "["

abbrev pub backslash : ℕ
backslash = byte "\\"

abbrev pub close_bracket : ℕ
close_bracket = byte "]"

abbrev pub underscore : ℕ
underscore = byte "_"

abbrev pub letter_n : ℕ
letter_n = byte "n"

abbrev pub letter_r : ℕ
letter_r = byte "r"

abbrev pub letter_s : ℕ
letter_s = byte "s"

abbrev pub letter_t : ℕ
letter_t = byte "t"

abbrev pub letter_x : ℕ
letter_x = byte "x"

abbrev pub open_brace : ℕ
open_brace = byte "{"

abbrev pub vertical_bar : ℕ
vertical_bar = byte "|"

abbrev pub close_brace : ℕ
close_brace = byte "}"
