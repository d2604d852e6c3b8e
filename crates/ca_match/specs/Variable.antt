-- The atoms with a meaning of their own in a match specification.
-- Source: the ERTS user's guide, "Match Specifications in Erlang"; that variables end at '$99' is this project's own.
use Rattle.std.specs.Prelude.{ℕ, ◌+◌, ◌-◌, ◌*◌, ◌==◌, Bool, ◌&&◌, List, [], ◌∷◌, bytes_eq, codes, Option, Some, None, if◌then◌else◌}
use Rattle.std.specs.Int.{is_in_range}
use Rattle.std.specs.Str.{byte}

-- '_': in a head it fits any term
abbrev pub is_wildcard : List ℕ → Bool
is_wildcard text = bytes_eq text (codes "_")

-- '$_': the whole object
abbrev pub is_whole : List ℕ → Bool
is_whole text = bytes_eq text (codes "$_")

-- '$$': the list of what is bound
abbrev pub is_all_bound : List ℕ → Bool
is_all_bound text = bytes_eq text (codes "$$")

-- the number of a digit, and whether it is one, from this digit on
abbrev pub digit : ℕ → ℕ
digit c = c - byte "0"

abbrev pub is_digit_from : ℕ → ℕ → Bool
is_digit_from least c = is_in_range least (byte "9") c

-- The number of a variable, '$0' to '$99', without leading zeros; other atoms are no variables.
abbrev pub variable_of : List ℕ → Option ℕ
variable_of (sign ∷ d ∷ []) = if (sign == byte "$") && is_digit_from (byte "0") d then Some (digit d) else None
variable_of (sign ∷ d ∷ e ∷ []) =
    if (sign == byte "$") && is_digit_from (byte "1") d && is_digit_from (byte "0") e then Some (digit d * 10 + digit e) else None
variable_of text = None
