-- The first byte of an integer's code.
use Rattle.std.specs.Prelude.{ℕ, ◌+◌, ◌-◌, ℤ, pos, negsuc, Bool, true, false}

-- by how many bytes stand behind it, for a negative integer or another one
abbrev pub first_byte : Bool → ℕ → ℕ
first_byte false len = 0x20 + len
first_byte true len = 0x1f - len

abbrev pub int_tag : ℤ → ℕ → ℕ
int_tag (pos n) len = first_byte false len
int_tag (negsuc m) len = first_byte true len
