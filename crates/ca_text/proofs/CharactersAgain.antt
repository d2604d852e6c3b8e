-- The characters between quotes are read, whatever follows.
use Rattle.std.proofs.Common.{◌≡◌, ◌≢◌, ℕ, zero, suc, ◌+◌, ◌-◌, ◌*◌, ◌<◌, ◌≤◌, true, false, ltb, leb, eqb, List, [], ◌∷◌, ◌++◌, length, None, Some, Ok, refl, sym, ap, subst, ◌∙◌, append_assoc, arith, lt-ltb, ⊎_elim, length-append}
use Rattle.std.proofs.lemmas.Bool.{leb-true}
use Rattle.std.proofs.lemmas.Bool.Decides.{nat_tests}
use Rattle.std.specs.List.{list_all}
use Rattle.std.specs.Char.{is_ascii_hexdigit, digit_value, encode_utf8, IsScalar}
use Rattle.std.specs.Str.{all_scalars}
use Rattle.std.specs.Str.Parse.{AllDigits, IsNumeral, digits_value, digits_value_after}
use Rattle.ca_text.specs.Bytes.{backslash, close_brace, letter_x, line_feed, open_brace}
use Rattle.ca_text.specs.Grammar.{escape_of, IsCharacter, Itself, Escaped, Hexadecimal, AreCharacters, Closed, OneMore}
use Rattle.ca_text.specs.declared.fault.Why.{Why}
use Rattle.ca_text.specs.Inner.Reading.{point_at, is_point, may_stand, hex_after, hex_at, escape_at, begins_character, character_at, next_point_at, closing_at, characters_at}
use Rattle.ca_text.proofs.Tools.{both}
use Rattle.ca_text.proofs.Points.{encode_some, first_byte, point_again}
use Rattle.ca_text.proofs.Again.{expect_again, grows}

hex_parts : (d : ℕ) → digit_value d < 16 → (is_ascii_hexdigit d ≡ true)
hex_parts d h = grind (arith, nat_tests)

stands : (most more c value : ℕ) → c ≤ value → is_point most value ≡ true → (more ≡ 0 → c ≡ value) → may_stand most more c ≡ true
stands most more c value le point last = grind (arith, nat_tests)

-- A closing brace ends digits that are worth a code point.
pub hex_end : (most more c : ℕ) (rest : List ℕ) → is_point most c ≡ true → hex_after most more c (close_brace ∷ rest) ≡ Ok (c, rest)
unfolding hex_after
hex_end most more c rest point = rw point refl

ended : (ds : List ℕ) (n : ℕ) → length ds ≤ 0 → n ≡ digits_value_after 16 n ds
ended [] n h = refl
ended (d ∷ ds) n h = absurd (omega arith)

hex_after_again : (ds : List ℕ) (most more c : ℕ) (rest : List ℕ) → AllDigits 16 ds → length ds ≤ more → is_point most (digits_value_after 16 c ds) ≡ true
    → hex_after most more c (ds ++ close_brace ∷ rest) ≡ Ok (digits_value_after 16 c ds, rest)
unfolding hex_after
hex_after_again [] most more c rest all few point = hex_end most more c rest point
hex_after_again (d ∷ ds) most more c rest all few point =
    let some : ltb 0 more ≡ true = lt-ltb 0 more (omega arith) in
    let next = c * 16 + digit_value d in
    let last : more - 1 ≡ 0 → next ≡ digits_value_after 16 next ds = λ e. ended ds next (omega arith) in
    let may = stands most (more - 1) next (digits_value_after 16 next ds) (grows ds 16 next (omega arith)) point last in
    rw (hex_parts d all.0, some, may) (hex_after_again ds most (more - 1) next rest all.1 (omega arith) point)

hex_again : (most : ℕ) (ds rest : List ℕ) → IsNumeral 16 ds → length ds ≤ 6 → is_point most (digits_value 16 ds) ≡ true
    → hex_at most (ds ++ close_brace ∷ rest) ≡ Ok (digits_value 16 ds, rest)
unfolding hex_at
hex_again most [] rest n few point = absurd (omega (arith, n.0))
hex_again most (d ∷ ds) rest n few point =
    let start : 0 * 16 + digit_value d ≡ digit_value d = omega arith in
    let worth : digits_value 16 (d ∷ ds) ≡ digits_value_after 16 (digit_value d) ds = ap (λ x. digits_value_after 16 x ds) start in
    let later = hex_after_again ds most 5 (digit_value d) rest n.1.1 (omega arith) (subst (λ x. is_point most x ≡ true) worth point) in
    let step : hex_at most (d ∷ (ds ++ close_brace ∷ rest)) ≡ Ok (digits_value_after 16 (digit_value d) ds, rest) = rw (hex_parts d n.1.0) later in
    step ∙ ap (λ x. Ok (x, rest)) (sym worth)

escape_letter : (letter c : ℕ) → escape_of letter ≡ Some c → eqb letter letter_x ≡ false
escape_letter letter c e = grind (arith, nat_tests)

-- a first byte that isn't the closing quote
pub record BeginsApart (close : ℕ) (text : List ℕ) : Type 0 where
  pub first : ℕ
  pub others : List ℕ
  pub is : text ≡ first ∷ others
  pub apart : eqb first close ≡ false

other_quote : (close b : ℕ) → b ≢ close → eqb b close ≡ false
other_quote close b h = grind (arith, nat_tests)

begins_itself : (close most c : ℕ) → c < 128 → c ≢ close → c ≢ line_feed → begins_character close most c ≡ true
begins_itself close most c low h i = grind (arith, nat_tests)

lead_begins : (close most b : ℕ) → close < 128 → 128 ≤ most → 0xc2 ≤ b → b < 0xf5
    → (begins_character close most b ≡ true) × (eqb b backslash ≡ false) × (eqb b close ≡ false)
lead_begins close most b small wide low high = (grind (arith, nat_tests), grind (arith, nat_tests), grind (arith, nat_tests))

point_most : (most c : ℕ) → is_point most c ≡ true → c ≤ most
point_most most c h = leb-true c most (both (leb c most) (all_scalars (c ∷ [])) h).0

itself_from : (close most c b : ℕ) (cs rest : List ℕ) → encode_utf8 c ≡ b ∷ cs → IsScalar c → eqb b backslash ≡ false → begins_character close most b ≡ true
    → character_at close most (encode_utf8 c ++ rest) ≡ Ok (c, rest)
unfolding character_at
itself_from close most c b cs rest is scalar other begins =
    let read : point_at (b ∷ (cs ++ rest)) ≡ Ok (c, rest) = ap (λ x. point_at (x ++ rest)) (sym is) ∙ point_again c rest scalar in
    let step : character_at close most (b ∷ (cs ++ rest)) ≡ Ok (c, rest) = rw (other, begins, read) refl in
    ap (λ x. character_at close most (x ++ rest)) is ∙ step

itself_again : (close most c : ℕ) (rest : List ℕ) → close < 128 → IsScalar c → c ≢ close → c ≢ backslash → c ≢ line_feed → is_point most c ≡ true
    → (character_at close most (encode_utf8 c ++ rest) ≡ Ok (c, rest)) × BeginsApart close (encode_utf8 c)
itself_again close most c rest small is h i j point =
    ⊎_elim
    (λ k. (
      itself_from close most c c [] rest k.1 is (other_quote backslash c i) (begins_itself close most c k.0 h j),
      record { first = c; others = []; is = k.1; apart = other_quote close c h },
    ))
    (λ k. let top = point_most most c point in
    let b = lead_begins close most k.1 small (omega (arith, k.0)) k.4 k.5 in
    (itself_from close most c k.1 k.2 rest k.3 is b.1 b.0, record { first = k.1; others = k.2; is = k.3; apart = b.2 }))
    (first_byte c is)

character_again : (close most : ℕ) (text : List ℕ) (c : ℕ) (rest : List ℕ) → close < 128 → close ≢ backslash → IsCharacter close text c → is_point most c ≡ true
    → (character_at close most (text ++ rest) ≡ Ok (c, rest)) × BeginsApart close text
unfolding character_at escape_at
character_again _ most _ _ rest small slash (Itself close c is h i j) point = itself_again close most c rest small is h i j point
character_again _ most _ _ rest small slash (Escaped close letter c e) point = (
  rw (escape_letter letter c e, e) refl,
  record {
    first = backslash;
    others = letter ∷ [];
    is = refl;
    apart = other_quote close backslash (λ x. slash (sym x));
  },
)
character_again _ most _ _ rest small slash (Hexadecimal close ds n few is) point =
    let regrouped : (ds ++ close_brace ∷ []) ++ rest ≡ ds ++ close_brace ∷ rest = append_assoc ds (close_brace ∷ []) rest in (
      rw (expect_again open_brace ((ds ++ close_brace ∷ []) ++ rest), regrouped, hex_again most ds rest n few point) refl,
      record {
        first = backslash;
        others = letter_x ∷ open_brace ∷ ds ++ close_brace ∷ [];
        is = refl;
        apart = other_quote close backslash (λ x. slash (sym x));
      },
    )

-- No character's text is empty.
pub character_some : (close : ℕ) (text : List ℕ) (c : ℕ) → IsCharacter close text c → 0 < length text
character_some _ _ _ (Itself close c is h i j) = encode_some c is
character_some _ _ _ (Escaped close letter c e) = omega arith
character_some _ _ _ (Hexadecimal close ds n few is) = omega arith

closed_again : (over : Why) (close most : ℕ) (rest : List ℕ) → closing_at over close most (close ∷ rest) ≡ Ok rest
unfolding closing_at
closed_again over close most rest = let e : eqb close close ≡ true = grind (arith, nat_tests) in rw e refl

none_again : (close most : ℕ) (rest : List ℕ) → next_point_at close most (close ∷ rest) ≡ Ok (None, rest)
unfolding next_point_at
none_again close most rest = let e : eqb close close ≡ true = grind (arith, nat_tests) in rw e refl

next_from : (close most c b : ℕ) (text others rest : List ℕ) → text ≡ b ∷ others → eqb b close ≡ false → character_at close most (text ++ rest) ≡ Ok (c, rest)
    → next_point_at close most (text ++ rest) ≡ Ok (Some c, rest)
unfolding next_point_at
next_from close most c b text others rest is apart read =
    let again : character_at close most (b ∷ (others ++ rest)) ≡ Ok (c, rest) = ap (λ x. character_at close most (x ++ rest)) (sym is) ∙ read in
    let step : next_point_at close most (b ∷ (others ++ rest)) ≡ Ok (Some c, rest) = rw (apart, again) refl in
    ap (λ x. next_point_at close most (x ++ rest)) is ∙ step

-- Characters and the closing quote at the front are read.
pub characters_again : (over : Why) (close most n : ℕ) (text cs rest : List ℕ) → close < 128 → close ≢ backslash → AreCharacters close text cs
    → list_all (is_point most) cs ≡ true → length cs ≤ n
    → characters_at over close most n (text ++ rest) ≡ Ok (cs, rest)
unfolding characters_at
characters_again over _ most zero _ _ rest small slash (Closed close) all few = rw (closed_again over close most rest) refl
characters_again over _ most (suc n) _ _ rest small slash (Closed close) all few = rw (none_again close most rest) refl
characters_again over _ most zero _ _ rest small slash (OneMore close c first others cs is are) all few = absurd (omega arith)
characters_again over _ most (suc n) _ _ rest small slash (OneMore close c first others cs is are) all few =
    let t = both (is_point most c) (list_all (is_point most) cs) all in
    let one = character_again close most first c (others ++ rest) small slash is t.0 in
    let next = next_from close most c one.1.first first one.1.others (others ++ rest) one.1.is one.1.apart one.0 in
    let later = characters_again over close most n others cs rest small slash are t.1 (omega arith) in
    rw (append_assoc first others rest, next, later) refl

-- there are no more code points than bytes
pub characters_few : (close : ℕ) (text cs : List ℕ) → close ≢ backslash → close < 128 → AreCharacters close text cs → length cs ≤ length text
characters_few _ _ _ slash small (Closed close) = omega arith
characters_few _ _ _ slash small (OneMore close c first others cs is are) =
    let some : 0 < length first = character_some close first c is in
    omega (arith, length-append first others, some, characters_few close others cs slash small are)
