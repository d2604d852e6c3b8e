-- The spelling of variables.
use Rattle.std.proofs.Common.{◌≡◌, ℕ, ◌<◌, ◌≤◌, ◌+◌, ◌/◌, ◌%◌, Bool, true, false, List, [], ◌∷◌, Some, refl, ap, arith, nat_lt}
use Rattle.std.proofs.lemmas.Bool.Decides.{nat_tests}
use Rattle.std.specs.Prelude.{if◌then◌else◌}
use Rattle.ca_match.specs.Spelling.{variable_name}
use Rattle.ca_match.specs.Variable.{is_all_bound, is_digit_from, is_whole, is_wildcard, variable_of}

abbrev spelled : Bool → ℕ → List ℕ
spelled b n = if b then 36 ∷ (48 + n) ∷ [] else 36 ∷ (48 + n / 10) ∷ (48 + n % 10) ∷ []

number_by : (b : Bool) (n : ℕ) → b ≡ nat_lt n 10 → n < 100 → variable_of (spelled b n) ≡ Some n
number_by true n e h =
    let l : n < 10 = grind (arith, nat_tests) in
    let r : is_digit_from 48 (48 + n) ≡ true = grind (arith, nat_tests) in
    rw r (ap Some (omega arith))
number_by false n e h =
    let l : 10 ≤ n = grind (arith, nat_tests) in
    let q : is_digit_from 49 (48 + n / 10) ≡ true = grind (arith, nat_tests) in
    let r : is_digit_from 48 (48 + n % 10) ≡ true = grind (arith, nat_tests) in
    rw (q, r) (ap Some (omega arith))

-- A variable's name has its number.
pub number_of_name : (n : ℕ) → n < 100 → variable_of (variable_name n) ≡ Some n
number_of_name n h = number_by (nat_lt n 10) n refl h

wildcard_by : (b : Bool) (n : ℕ) → is_wildcard (spelled b n) ≡ false
wildcard_by true n = refl
wildcard_by false n = refl

whole_by : (b : Bool) (n : ℕ) → b ≡ nat_lt n 10 → is_whole (spelled b n) ≡ false
whole_by true n e = grind (arith, nat_tests)
whole_by false n e = grind (arith, nat_tests)

all_by : (b : Bool) (n : ℕ) → b ≡ nat_lt n 10 → is_all_bound (spelled b n) ≡ false
all_by true n e = grind (arith, nat_tests)
all_by false n e = grind (arith, nat_tests)

-- No variable is the wildcard.
pub no_wildcard : (n : ℕ) → is_wildcard (variable_name n) ≡ false
no_wildcard n = wildcard_by (nat_lt n 10) n

-- No variable is the name of the whole object.
pub not_whole : (n : ℕ) → is_whole (variable_name n) ≡ false
not_whole n = whole_by (nat_lt n 10) n refl

-- No variable is the name of all that is bound.
pub not_all_bound : (n : ℕ) → is_all_bound (variable_name n) ≡ false
not_all_bound n = all_by (nat_lt n 10) n refl
