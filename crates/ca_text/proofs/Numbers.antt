-- What is read as blanks, as a number or as a name.
use Rattle.std.proofs.Common.{◌≡◌, ℕ, ◌+◌, ◌-◌, ◌*◌, ◌^◌, ◌<◌, ◌≤◌, Bool, true, false, cond, leb, eqb, ◌&&◌, ◌||◌, List, [], ◌∷◌, ◌++◌, length, take, drop, Ok, ℤ, pos, neg_ℤ, refl, sym, ap, subst, ◌∙◌, arith, ⊎_elim, take-append-drop, length-take}
use Rattle.std.proofs.lemmas.Bool.{leb-true, eqb-true}
use Rattle.std.proofs.lemmas.Bool.Decides.{nat_tests}
use Rattle.std.specs.List.{list_all}
use Rattle.std.specs.Char.{is_ascii_digit, digit_value, is_ascii_lowercase}
use Rattle.std.specs.Str.Parse.{AllDigits, IsNumeral, digits_value, digits_value_after}
use Rattle.ca_text.specs.Bytes.{digit_zero, minus_sign}
use Rattle.ca_text.specs.Text.{is_name_char, has_plain_form}
use Rattle.ca_text.specs.Grammar.{is_blank, AreBlanks, IsInteger, FromZero, Negative, takes_in, IsWhole, skip}
use Rattle.ca_text.specs.Inner.Reading.{digits_after, number_at, integer_at, name_length, name_at}
use Rattle.ca_text.proofs.Yields.{Yields, ok_yields, err_yields, if_yields, bind_yields}
use Rattle.ca_text.proofs.Tools.{chosen, guarded, both, pair_is}

-- blanks stand at the front
pub record IsSkipped (bytes rest : List ℕ) : Type 0 where
  pub blanks : List ℕ
  pub whole : bytes ≡ blanks ++ rest
  pub are : AreBlanks blanks

-- What is skipped are blanks.
pub skipped : (bytes : List ℕ) → IsSkipped bytes (skip bytes)
unfolding skip
skipped [] = record { blanks = []; whole = refl; are = refl }
skipped (b ∷ bytes) =
    let r = skipped bytes in
    ⊎_elim
    (λ h. record { blanks = b ∷ r.blanks; whole = rw h.0 (ap (λ x. b ∷ x) r.whole); are = rw (h.0, r.are) refl })
    (λ h. record { blanks = []; whole = rw h.0 refl; are = refl })
    (chosen (is_blank b) true false (cond (is_blank b) true false) refl)

-- no digit stands first
abbrev pub EndsDigits : List ℕ → Type 0
EndsDigits [] = Unit {0}
EndsDigits (b ∷ bytes) = is_ascii_digit b ≡ false

-- no character of a name stands first
abbrev pub EndsName : List ℕ → Type 0
EndsName [] = Unit {0}
EndsName (b ∷ bytes) = is_name_char b ≡ false

digit_worth : (b : ℕ) → is_ascii_digit b ≡ true → (digit_value b ≡ b - digit_zero) × (digit_value b < 10)
digit_worth b h = (grind (arith, nat_tests), grind (arith, nat_tests))

-- digits stand at the front, behind others worth n
pub record AreDigitsAt (most n : ℕ) (bytes : List ℕ) (value : ℕ) (rest : List ℕ) : Type 0 where
  pub digits : List ℕ
  pub whole : bytes ≡ digits ++ rest
  pub all : AllDigits 10 digits
  pub value_is : digits_value_after 10 n digits ≡ value
  pub bounded : n ≤ most → value ≤ most
  pub ends : EndsDigits rest

digits_taken : (most n : ℕ) (bytes : List ℕ) (value : ℕ) (rest : List ℕ) → digits_after most n bytes ≡ Ok (value, rest)
    → AreDigitsAt most n bytes value rest
unfolding digits_after
digits_taken most n [] value rest e =
    let p = pair_is n [] value rest e in
    record { digits = []; whole = p.1; all = tt; value_is = p.0; bounded = λ h. omega (arith, p.0); ends = subst EndsDigits p.1 tt }
digits_taken most n (b ∷ bytes) value rest e =
    ⊎_elim
    (λ h. let g = guarded (leb (n * 10 + (b - digit_zero)) most) _ _ (value, rest) h.1 in
    let r = digits_taken most (n * 10 + (b - digit_zero)) bytes value rest g.1 in
    let d = digit_worth b h.0 in
    record {
      digits = b ∷ r.digits;
      whole = ap (λ x. b ∷ x) r.whole;
      all = (d.1, r.all);
      value_is = ap (λ x. digits_value_after 10 (n * 10 + x) r.digits) d.0 ∙ r.value_is;
      bounded = λ _. r.bounded (leb-true _ most g.0);
      ends = r.ends;
    })
    (λ h. let p = pair_is n (b ∷ bytes) value rest h.1 in
    record { digits = []; whole = p.1; all = tt; value_is = p.0; bounded = λ h. omega (arith, p.0); ends = subst EndsDigits p.1 h.0 })
    (chosen (is_ascii_digit b) _ _ (Ok (value, rest)) e)

and_false : (b : Bool) → (b && false) ≡ false
and_false true = refl
and_false false = refl

-- a number stands at the front
pub record IsNumberAt (most : ℕ) (bytes : List ℕ) (value : ℕ) (rest : List ℕ) : Type 0 where
  pub digits : List ℕ
  pub whole : bytes ≡ digits ++ rest
  pub numeral : IsNumeral 10 digits
  pub value_is : digits_value 10 digits ≡ value
  pub bounded : value ≤ most
  pub ends : EndsDigits rest

number_some : (most b : ℕ) (bytes digits : List ℕ) (value : ℕ) (rest : List ℕ) → is_ascii_digit b ≡ true → b ∷ bytes ≡ digits ++ rest → AllDigits 10 digits
    → digits_value_after 10 0 digits ≡ value
    → value ≤ most → EndsDigits rest → IsNumberAt most (b ∷ bytes) value rest
number_some most b bytes [] value rest h whole all worth bound ends = let no : is_ascii_digit b ≡ false = subst EndsDigits (sym whole) ends in absurd cc
number_some most b bytes (d ∷ digits) value rest h whole all worth bound ends =
    record { digits = d ∷ digits; whole = whole; numeral = (omega arith, all); value_is = worth; bounded = bound; ends = ends }

-- What is read as a number is a numeral of that value.
pub number_taken : (most : ℕ) (bytes : List ℕ) (value : ℕ) (rest : List ℕ) → number_at most bytes ≡ Ok (value, rest) → IsNumberAt most bytes value rest
unfolding number_at
number_taken most [] value rest e = absurd cc
number_taken most (b ∷ bytes) value rest e =
    let g = guarded (is_ascii_digit b) _ (digits_after most 0 (b ∷ bytes)) (value, rest) e in
    let r = digits_taken most 0 (b ∷ bytes) value rest g.1 in
    number_some most b bytes r.digits value rest g.0 r.whole r.all r.value_is (r.bounded (omega arith)) r.ends

-- A text to which no byte belongs is whole before anything.
pub whole_by : (text rest : List ℕ) → ((b : ℕ) → takes_in text b ≡ false) → IsWhole text rest
whole_by text [] h = tt
whole_by text (b ∷ rest) h = h b

number_whole : (c b : ℕ) (text : List ℕ) → (is_ascii_lowercase c ≡ false) → is_ascii_digit b ≡ false → takes_in (c ∷ text) b ≡ false
number_whole c b text h e = rw (h, e) (and_false (is_ascii_digit c || eqb c minus_sign))

whole_digits : (c : ℕ) (text rest : List ℕ) → is_ascii_lowercase c ≡ false → EndsDigits rest → IsWhole (c ∷ text) rest
whole_digits c text [] h e = tt
whole_digits c text (b ∷ rest) h e = number_whole c b text h e

digit_not_letter : (b : ℕ) → digit_value b < 10 → is_ascii_lowercase b ≡ false
digit_not_letter b h = grind (arith, nat_tests)

whole_numeral : (digits rest : List ℕ) → IsNumeral 10 digits → EndsDigits rest → IsWhole digits rest
whole_numeral [] rest n ends = absurd (omega (arith, n.0))
whole_numeral (d ∷ digits) rest n ends = whole_digits d digits rest (digit_not_letter d n.1.0) ends

-- an integer stands at the front
pub record IsIntegerAt (bytes : List ℕ) (n : ℤ) (rest : List ℕ) : Type 0 where
  pub text : List ℕ
  pub whole : bytes ≡ text ++ rest
  pub is : IsInteger text n
  pub ends : IsWhole text rest

-- As number_taken, of whatever is read.
pub number_yields : (most : ℕ) (bytes : List ℕ) → Yields (λ (x : ℕ × List ℕ). IsNumberAt most bytes x.0 x.1) (number_at most bytes)
number_yields most bytes = record { is = λ x e. number_taken most bytes x.0 x.1 e }

-- What is read as an integer is one.
pub integer_taken : (bytes : List ℕ) → Yields (λ (x : ℤ × List ℕ). IsIntegerAt bytes x.0 x.1) (integer_at bytes)
unfolding integer_at
integer_taken [] = err_yields
integer_taken (b ∷ bytes) =
    if_yields (eqb b minus_sign)
    (λ h. bind_yields _ (number_yields (2 ^ 63) bytes) (λ x r. ok_yields (record {
      text = minus_sign ∷ r.digits;
      whole = λ i. eqb-true b minus_sign h i ∷ r.whole i;
      is = subst (λ v. IsInteger (minus_sign ∷ r.digits) (neg_ℤ (pos v))) r.value_is (Negative r.digits r.numeral (omega (arith, r.value_is, r.bounded)));
      ends = whole_digits minus_sign r.digits x.1 refl r.ends;
    })))
    (λ h. bind_yields _ (number_yields (2 ^ 63 - 1) (b ∷ bytes)) (λ x r. ok_yields (record {
      text = r.digits;
      whole = r.whole;
      is = subst (λ v. IsInteger r.digits (pos v)) r.value_is (FromZero r.digits r.numeral (omega (arith, r.value_is, r.bounded)));
      ends = whole_numeral r.digits x.1 r.numeral r.ends;
    })))

-- The characters that are counted are those of a name.
pub names_all : (bytes : List ℕ) → list_all is_name_char (take (name_length bytes) bytes) ≡ true
unfolding name_length
names_all [] = refl
names_all (b ∷ bytes) =
    ⊎_elim (λ h. rw (h.0, h.0, names_all bytes) refl) (λ h. rw h.0 refl) (chosen (is_name_char b) true false (cond (is_name_char b) true false) refl)

-- No character of a name stands behind those that are counted.
pub names_end : (bytes : List ℕ) → EndsName (drop (name_length bytes) bytes)
unfolding name_length
names_end [] = tt
names_end (b ∷ bytes) =
    ⊎_elim (λ h. rw h.0 (names_end bytes)) (λ h. rw h.0 h.0) (chosen (is_name_char b) true false (cond (is_name_char b) true false) refl)

-- a plain atom stands at the front
pub record IsNameAt (most : ℕ) (bytes name rest : List ℕ) : Type 0 where
  pub whole : bytes ≡ name ++ rest
  pub form : has_plain_form name ≡ true
  pub few : length name ≤ most
  pub ends : IsWhole name rest

whole_name : (c : ℕ) (text rest : List ℕ) → is_ascii_lowercase c ≡ true → EndsName rest → IsWhole (c ∷ text) rest
whole_name c text [] h e = tt
whole_name c text (b ∷ rest) h e = rw (h, e) refl

letter_named : (b : ℕ) → is_ascii_lowercase b ≡ true → is_name_char b ≡ true
letter_named b h = grind (arith, nat_tests)

name_parts : (most b : ℕ) (bytes name rest : List ℕ) → is_ascii_lowercase b ≡ true → b ∷ bytes ≡ name ++ rest → list_all is_name_char name ≡ true
    → length name ≤ most → EndsName rest
    → IsNameAt most (b ∷ bytes) name rest
name_parts most b bytes [] rest h whole all few ends =
    let no : is_name_char b ≡ false = subst EndsName (sym whole) ends in let yes = letter_named b h in absurd cc
name_parts most b bytes (c ∷ cs) rest h whole all few ends =
    let same : b ≡ c = cc in
    let letter : is_ascii_lowercase c ≡ true = rw same at h in
    record {
      whole = whole;
      form = rw (letter, (both (is_name_char c) (list_all is_name_char cs) all).1) refl;
      few = few;
      ends = whole_name c cs rest letter ends;
    }

-- What is read as a name that a letter a to z begins is a plain atom.
pub name_yields : (most b : ℕ) (bytes : List ℕ) → is_ascii_lowercase b ≡ true
    → Yields (λ (x : List ℕ × List ℕ). IsNameAt most (b ∷ bytes) x.0 x.1) (name_at most (b ∷ bytes))
unfolding name_at
name_yields most b bytes h =
    let n = name_length (b ∷ bytes) in
    if_yields (leb n most)
    (λ g. ok_yields (name_parts most b bytes (take n (b ∷ bytes)) (drop n (b ∷ bytes)) h (sym (take-append-drop n (b ∷ bytes))) (names_all (b ∷ bytes))
    (omega (arith, length-take n (b ∷ bytes), leb-true n most g)) (names_end (b ∷ bytes))))
    (λ g. err_yields)
