-- Numbers of digits.
use Rattle.std.proofs.Common.{ℕ, ◌+◌, ◌*◌, ◌-◌, ◌≤◌, List, [], ◌∷◌, arith}
use Rattle.ca_words.specs.Grammar.{number_after}

-- More digits never make a number less.
pub number_grows : (n : ℕ) (digits : List ℕ) → n ≤ number_after n digits
unfolding number_after
number_grows n [] = omega arith
number_grows n (b ∷ digits) = omega (arith, number_grows (n * 10 + (b - 48)) digits)
