-- How the variables of match specifications are spelled.
use Rattle.std.specs.Prelude.{ℕ, ◌+◌, ◌/◌, ◌%◌, List, [], ◌∷◌, nat_lt, if◌then◌else◌}
use Rattle.std.specs.Str.{byte}

-- '$0' to '$99', without leading zeros
abbrev pub variable_name : ℕ → List ℕ
variable_name n =
    if nat_lt n 10 then byte "$" ∷ (byte "0" + n) ∷ [] else byte "$" ∷ (byte "0" + n / 10) ∷ (byte "0" + n % 10) ∷ []
