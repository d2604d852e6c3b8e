-- Where the reading of a number or of a name halts, what it took begins one.
use Rattle.std.proofs.Common.{◌≡◌, ℕ, zero, suc, ◌+◌, ◌-◌, ◌*◌, ◌^◌, ◌≤◌, true, leb, eqb, List, [], ◌∷◌, length, take, drop, pos, neg_ℤ, refl, sym, subst, ◌∙◌, ◌<◌, arith, ◌⊎◌, inl, inr, take-append-drop, length-take}
use Rattle.std.proofs.lemmas.Bool.{leb-false}
use Rattle.std.proofs.lemmas.List.{append-nil}
use Rattle.std.specs.List.{list_all}
use Rattle.std.specs.Char.{is_ascii_digit, is_ascii_lowercase}
use Rattle.std.specs.Str.Parse.{IsNumeral, digits_value}
use Rattle.ca_text.specs.Bytes.{digit_zero, minus_sign}
use Rattle.ca_text.specs.Text.{is_name_char, has_plain_form}
use Rattle.ca_text.specs.Grammar.{IsInteger, FromZero, Negative}
use Rattle.ca_text.specs.declared.fault.Why.TheVariants.{Syntax, AtomTooLong}
use Rattle.ca_text.specs.Inner.Reading.{digits_after, number_at, integer_at, negative_at, positive_at, name_length, name_at}
use Rattle.ca_text.proofs.Tools.{both}
use Rattle.ca_text.proofs.LocalTerms.{names_to}
use Rattle.ca_text.proofs.Numbers.{number_taken}
use Rattle.ca_text.proofs.Halts.{GoesOn, HaltsAt, Halts, Reads, ok_halts, fault_halts, here_halts, if_halts, byte_halts, bind_halts, behind_as, as_halts, cons_halts, same_halts}

digits_halt : (bytes : List ℕ) (most n : ℕ) → HaltsAt (Reads (digits_after most n)) bytes (digits_after most n bytes)
unfolding digits_after
digits_halt [] most n = ok_halts
digits_halt (b ∷ bytes) most n =
    let next = n * 10 + (b - digit_zero) in
    if_halts (is_ascii_digit b)
    (λ h. if_halts (leb next most)
    (λ i. cons_halts (digits_after most n) (digits_after most next) b (λ zs. rw (h, i) refl) ([], next, refl) (digits_halt bytes most next))
    (λ i. here_halts Syntax (b ∷ bytes)))
    (λ h. ok_halts)

number_halt : (most : ℕ) → Halts (number_at most) (Reads (number_at most))
unfolding number_at
number_halt most [] = here_halts Syntax []
number_halt most (b ∷ bytes) =
    if_halts (is_ascii_digit b)
    (λ h. same_halts (number_at most) (digits_after most 0) b (λ zs. rw h refl) (digits_halt (b ∷ bytes) most 0))
    (λ h. here_halts Syntax (b ∷ bytes))

-- digits of a number of at most so much
abbrev pub IsNumber : ℕ → List ℕ → ℕ → Type 0
IsNumber most text n = IsNumeral 10 text × (digits_value 10 text ≡ n) × (n ≤ most)

-- Where the reading of a number halts, what it took goes on to one.
pub number_halts : (most : ℕ) → Halts (number_at most) (IsNumber most)
number_halts most bytes =
    as_halts (λ text n is. let r = number_taken most text n [] is in
    let whole : r.digits ≡ text = sym (r.whole ∙ append-nil r.digits) in
    (n, subst (λ x. IsNumber most x n) whole (r.numeral, r.value_is, r.bounded)))
    (number_halt most bytes)

positive_halts : Halts positive_at IsInteger
positive_halts bytes = bind_halts _ (as_halts (λ digits n is. (pos (digits_value 10 digits), FromZero digits is.0 (omega (arith, is.1, is.2))))
    (number_halts (2 ^ 63 - 1) bytes)) (λ x e. ok_halts)

negative_halts : (bytes : List ℕ) → HaltsAt IsInteger (minus_sign ∷ bytes) (negative_at bytes)
negative_halts bytes = bind_halts _ (behind_as (minus_sign ∷ [])
    (digit_zero ∷ [], neg_ℤ (pos 0), Negative (digit_zero ∷ []) (omega arith, (omega arith, tt)) (omega arith))
    (λ digits n is. (neg_ℤ (pos (digits_value 10 digits)), Negative digits is.0 (omega (arith, is.1, is.2))))
    (number_halts (2 ^ 63) bytes)) (λ x e. ok_halts)

-- Where the reading of an integer halts, what it took goes on to one.
pub integer_halts : Halts integer_at IsInteger
unfolding integer_at
integer_halts [] = here_halts Syntax []
integer_halts (b ∷ bytes) = if_halts (eqb b minus_sign) (λ h. byte_halts h (negative_halts bytes)) (λ h. positive_halts (b ∷ bytes))

-- a name of at most so many characters
abbrev pub IsName : ℕ → List ℕ → List ℕ → Type 0
IsName most text name = (has_plain_form text ≡ true) × (length text ≤ most) × (text ≡ name)

-- what is taken of a name that is too long
name_front : (most b : ℕ) (bytes : List ℕ) → is_ascii_lowercase b ≡ true → most < name_length (b ∷ bytes)
    → (take most (b ∷ bytes) ≡ []) ⊎ GoesOn (IsName most) (take most (b ∷ bytes))
name_front zero b bytes h more = inl refl
name_front (suc most) b bytes h more =
    let name = b ∷ take most bytes in
    let all : list_all is_name_char name ≡ true = names_to (suc most) (b ∷ bytes) (omega arith) in
    let form : has_plain_form name ≡ true = rw (h, (both (is_name_char b) (list_all is_name_char (take most bytes)) all).1) refl in
    let few : length name ≤ suc most = omega (arith, length-take (suc most) (b ∷ bytes)) in
    inr ([], name, subst (λ x. IsName (suc most) x name) (sym (append-nil name)) (form, few, refl))

-- Where the reading of a plain atom halts, what it took is one.
pub name_halts : (most b : ℕ) (bytes : List ℕ) → is_ascii_lowercase b ≡ true → HaltsAt (IsName most) (b ∷ bytes) (name_at most (b ∷ bytes))
unfolding name_at
name_halts most b bytes h =
    let n = name_length (b ∷ bytes) in
    if_halts (leb n most) (λ i. ok_halts)
    (λ i. fault_halts AtomTooLong (take most (b ∷ bytes)) (drop most (b ∷ bytes)) (sym (take-append-drop most (b ∷ bytes)))
    (name_front most b bytes h (leb-false n most i)))
