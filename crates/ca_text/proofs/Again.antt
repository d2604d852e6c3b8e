-- Blanks, numbers, names and code points that stand at the front are read, whatever follows that doesn't belong to them.
use Rattle.std.proofs.Common.{◌≡◌, ℕ, ◌+◌, ◌-◌, ◌*◌, ◌^◌, ◌<◌, ◌≤◌, true, false, leb, eqb, ◌||◌, List, [], ◌∷◌, ◌++◌, length, Ok, ℤ, pos, refl, arith}
use Rattle.std.proofs.Math.Seq.{take-append_seam, drop-append_seam}
use Rattle.std.proofs.Math.Nat.{mul-le-mul_left}
use Rattle.std.proofs.lemmas.Bool.{le-leb}
use Rattle.std.proofs.lemmas.Bool.Decides.{nat_tests}
use Rattle.std.specs.List.{list_all}
use Rattle.std.specs.Char.{is_ascii_digit, digit_value, is_ascii_lowercase}
use Rattle.std.specs.Str.Parse.{AllDigits, IsNumeral, digits_value, digits_value_after}
use Rattle.ca_text.specs.Bytes.{digit_zero, minus_sign}
use Rattle.ca_text.specs.Text.{is_name_char, has_plain_form}
use Rattle.ca_text.specs.Grammar.{is_blank, AreBlanks, IsInteger, FromZero, Negative, IsWhole, skip}
use Rattle.ca_text.specs.Inner.Reading.{expect, digits_after, number_at, integer_at, name_length, name_at}
use Rattle.ca_text.proofs.Tools.{both}
use Rattle.ca_text.proofs.Numbers.{EndsDigits, EndsName}

-- Blanks at the front are skipped, up to a byte that is none.
pub skip_again : (blanks : List ℕ) (b : ℕ) (rest : List ℕ) → AreBlanks blanks → is_blank b ≡ false → skip (blanks ++ b ∷ rest) ≡ b ∷ rest
unfolding skip
skip_again [] b rest are h = rw h refl
skip_again (c ∷ blanks) b rest are h = let t = both (is_blank c) (list_all is_blank blanks) are in rw t.0 (skip_again blanks b rest t.1 h)

-- A byte that stands at the front is read.
pub expect_again : (c : ℕ) (rest : List ℕ) → expect c (c ∷ rest) ≡ Ok rest
unfolding expect
expect_again c rest = let e : eqb c c ≡ true = grind (arith, nat_tests) in rw e refl

digit_parts : (d : ℕ) → digit_value d < 10 → (is_ascii_digit d ≡ true) × (digit_value d ≡ d - digit_zero)
digit_parts d h = (grind (arith, nat_tests), grind (arith, nat_tests))

-- Further digits make no number smaller.
pub grows : (ds : List ℕ) (radix n : ℕ) → 0 < radix → n ≤ digits_value_after radix n ds
grows [] radix n h = omega arith
grows (d ∷ ds) radix n h =
    let one : n ≤ n * radix = omega (arith, mul-le-mul_left n h) in
    omega (arith, grows ds radix (n * radix + digit_value d) h, one)

digits_again : (most n : ℕ) (ds rest : List ℕ) → AllDigits 10 ds → digits_value_after 10 n ds ≤ most → EndsDigits rest
    → digits_after most n (ds ++ rest) ≡ Ok (digits_value_after 10 n ds, rest)
unfolding digits_after
digits_again most n [] [] all bound ends = refl
digits_again most n [] (b ∷ rest) all bound ends = rw ends refl
digits_again most n (d ∷ ds) rest all bound ends =
    let p = digit_parts d all.0 in
    let step : n * 10 + (d - digit_zero) ≡ n * 10 + digit_value d = omega (arith, p.1) in
    let small : n * 10 + digit_value d ≤ most = omega (arith, grows ds 10 (n * 10 + digit_value d) (omega arith), bound) in
    let fits : leb (n * 10 + digit_value d) most ≡ true = le-leb _ _ small in
    rw (p.0, step, fits) (digits_again most (n * 10 + digit_value d) ds rest all.1 bound ends)

-- A numeral at the front that no digit follows is read.
pub number_again : (most : ℕ) (ds rest : List ℕ) → IsNumeral 10 ds → digits_value 10 ds ≤ most → EndsDigits rest
    → number_at most (ds ++ rest) ≡ Ok (digits_value 10 ds, rest)
unfolding number_at
number_again most [] rest n bound ends = absurd (omega (arith, n.0))
number_again most (d ∷ ds) rest n bound ends = rw (digit_parts d n.1.0).0 (digits_again most 0 (d ∷ ds) rest n.1 bound ends)

ends_digits : (c : ℕ) (text rest : List ℕ) → is_ascii_lowercase c ≡ false → (is_ascii_digit c || eqb c minus_sign) ≡ true → IsWhole (c ∷ text) rest
    → EndsDigits rest
ends_digits c text [] low digit whole = tt
ends_digits c text (b ∷ rest) low digit whole = rw (low, digit) at whole

digit_first : (d : ℕ) → digit_value d < 10 → (is_ascii_lowercase d ≡ false) × ((is_ascii_digit d || eqb d minus_sign) ≡ true) × (eqb d minus_sign ≡ false)
digit_first d h = (grind (arith, nat_tests), grind (arith, nat_tests), grind (arith, nat_tests))

positive_again : (ds rest : List ℕ) → IsNumeral 10 ds → digits_value 10 ds < 2 ^ 63 → IsWhole ds rest
    → integer_at (ds ++ rest) ≡ Ok (pos (digits_value 10 ds), rest)
unfolding integer_at
positive_again [] rest n bound whole = absurd (omega (arith, n.0))
positive_again (d ∷ ds) rest n bound whole =
    let f = digit_first d n.1.0 in
    let read = number_again (2 ^ 63 - 1) (d ∷ ds) rest n (omega arith) (ends_digits d ds rest f.0 f.1 whole) in
    rw (f.2, read) refl

-- An integer at the front that no digit follows is read.
pub integer_again : (text : List ℕ) (n : ℤ) (rest : List ℕ) → IsInteger text n → IsWhole text rest → integer_at (text ++ rest) ≡ Ok (n, rest)
unfolding integer_at
integer_again _ _ rest (FromZero ds n bound) whole = positive_again ds rest n bound whole
integer_again _ _ rest (Negative ds n bound) whole = rw (number_again (2 ^ 63) ds rest n bound (ends_digits minus_sign ds rest refl refl whole)) refl

ends_name : (c : ℕ) (text rest : List ℕ) → is_ascii_lowercase c ≡ true → IsWhole (c ∷ text) rest → EndsName rest
ends_name c text [] low whole = tt
ends_name c text (b ∷ rest) low whole = rw low at whole

-- A name at the front is as long as its characters, if none follows.
pub name_long : (cs rest : List ℕ) → list_all is_name_char cs ≡ true → EndsName rest → name_length (cs ++ rest) ≡ length cs
unfolding name_length
name_long [] [] all ends = refl
name_long [] (b ∷ rest) all ends = rw ends refl
name_long (c ∷ cs) rest all ends = let t = both (is_name_char c) (list_all is_name_char cs) all in rw t.0 (omega (arith, name_long cs rest t.1 ends))

plain_all : (c : ℕ) (cs : List ℕ) → has_plain_form (c ∷ cs) ≡ true → (is_ascii_lowercase c ≡ true) × (list_all is_name_char (c ∷ cs) ≡ true)
plain_all c cs h =
    let t = both (is_ascii_lowercase c) (list_all is_name_char cs) h in
    let low = t.0 in
    let one : is_name_char c ≡ true = grind (arith, nat_tests) in
    (t.0, rw (one, t.1) refl)

-- A plain atom at the front that no character of a name follows is read.
pub name_again : (most c : ℕ) (cs rest : List ℕ) → has_plain_form (c ∷ cs) ≡ true → length (c ∷ cs) ≤ most → IsWhole (c ∷ cs) rest
    → name_at most ((c ∷ cs) ++ rest) ≡ Ok (c ∷ cs, rest)
unfolding name_at
name_again most c cs rest form few whole =
    let p = plain_all c cs form in
    let long = name_long (c ∷ cs) rest p.1 (ends_name c cs rest p.0 whole) in
    let fits : leb (length (c ∷ cs)) most ≡ true = le-leb _ _ few in
    rw (long, fits, take-append_seam (c ∷ cs) rest, drop-append_seam (c ∷ cs) rest) refl
