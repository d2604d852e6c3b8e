-- The codes that clients put.
use Rattle.std.specs.Prelude.{ℕ, ◌/◌, ◌%◌, List, [], ◌∷◌}

-- the code of the number 2 ^ 24 + n, where n is below 2 ^ 24
abbrev pub number_code : ℕ → List ℕ
number_code n = 0x24 ∷ 1 ∷ (n / 65536 % 256) ∷ (n / 256 % 256) ∷ (n % 256) ∷ []
