-- What is read between quotes is what the characters there stand for.
use Rattle.std.proofs.Common.{◌≡◌, ◌≢◌, ℕ, zero, suc, ◌+◌, ◌-◌, ◌*◌, ◌<◌, ◌≤◌, true, ltb, leb, eqb, ◌&&◌, List, [], ◌∷◌, ◌++◌, length, get_or, Option, None, Some, refl, sym, ap, subst, ◌∙◌, append_assoc, arith, ⊎_elim}
use Rattle.std.proofs.lemmas.Bool.{ltb-true, leb-true, eqb-true, eqb-false}
use Rattle.std.proofs.lemmas.Bool.Decides.{nat_tests}
use Rattle.std.specs.List.{list_all}
use Rattle.std.specs.Char.{encode_utf8, IsScalar, is_ascii_hexdigit, digit_value}
use Rattle.std.specs.Str.{all_scalars}
use Rattle.std.specs.Str.Parse.{AllDigits, digits_value, digits_value_after}
use Rattle.ca_text.specs.Bytes.{backslash, close_brace, letter_x, line_feed, open_brace}
use Rattle.ca_text.specs.Grammar.{escape_of, IsCharacter, Itself, Escaped, Hexadecimal, AreCharacters, Closed, OneMore}
use Rattle.ca_text.specs.declared.fault.Why.{Why}
use Rattle.ca_text.specs.Inner.Reading.{is_point, may_stand, hex_after, hex_at, or_fault, escape_at, begins_character, character_at, next_point_at, closing_at, points_after, characters_at, most_point}
use Rattle.ca_text.proofs.Points.{IsPointOf, first_byte, point_yields}
use Rattle.ca_text.proofs.Tools.{both}
use Rattle.ca_text.proofs.Yields.{Yields, ok_yields, err_yields, if_yields, map_yields, bind_yields, expect_yields}

-- `\x{`, digits and `}` behind digits worth c
pub record AreHexDigits (most more c : ℕ) (bytes : List ℕ) (value : ℕ) (rest : List ℕ) : Type 0 where
  pub digits : List ℕ
  pub whole : bytes ≡ digits ++ close_brace ∷ rest
  pub all : AllDigits 16 digits
  pub few : length digits ≤ more
  pub value_is : digits_value_after 16 c digits ≡ value
  pub point : is_point most value ≡ true

is_hex : (b : ℕ) → is_ascii_hexdigit b ≡ true → digit_value b < 16
is_hex b h = grind (arith, nat_tests)

hex_after_taken : (bytes : List ℕ) (most more c : ℕ) → Yields (λ (x : ℕ × List ℕ). AreHexDigits most more c bytes x.0 x.1) (hex_after most more c bytes)
unfolding hex_after
hex_after_taken [] most more c = err_yields
hex_after_taken (b ∷ bytes) most more c =
    if_yields (is_ascii_hexdigit b && ltb 0 more)
    (λ h. let t = both (is_ascii_hexdigit b) (ltb 0 more) h in
    let some = ltb-true 0 more t.1 in
    if_yields (may_stand most (more - 1) (c * 16 + digit_value b))
    (λ i. map_yields (hex_after_taken bytes most (more - 1) (c * 16 + digit_value b)) (λ x r. record {
      digits = b ∷ r.digits;
      whole = ap (λ y. b ∷ y) r.whole;
      all = (is_hex b t.0, r.all);
      few = omega (arith, r.few);
      value_is = r.value_is;
      point = r.point;
    }))
    (λ i. err_yields))
    (λ h. if_yields (eqb b close_brace && is_point most c)
    (λ i. let t = both (eqb b close_brace) (is_point most c) i in
    ok_yields (record { digits = []; whole = ap (λ x. x ∷ bytes) (eqb-true b close_brace t.0); all = tt; few = omega arith; value_is = refl; point = t.1 }))
    (λ i. err_yields))

hex_taken : (most : ℕ) (bytes : List ℕ)
    → Yields (λ (x : ℕ × List ℕ). (r : AreHexDigits most 6 0 bytes x.0 x.1) × (0 < length r.digits)) (hex_at most bytes)
unfolding hex_at
hex_taken most [] = err_yields
hex_taken most (b ∷ bytes) =
    let start : 0 * 16 + digit_value b ≡ digit_value b = omega arith in
    if_yields (is_ascii_hexdigit b)
    (λ h. map_yields (hex_after_taken bytes most 5 (digit_value b)) (λ x r. (
      record {
        digits = b ∷ r.digits;
        whole = ap (λ y. b ∷ y) r.whole;
        all = (is_hex b h, r.all);
        few = omega (arith, r.few);
        value_is = ap (λ c. digits_value_after 16 c r.digits) start ∙ r.value_is;
        point = r.point;
      },
      omega arith,
    )))
    (λ h. err_yields)

-- a character is read at the front
pub record IsCharacterAt (close most : ℕ) (bytes : List ℕ) (c : ℕ) (rest : List ℕ) : Type 0 where
  pub text : List ℕ
  pub whole : bytes ≡ text ++ rest
  pub character : IsCharacter close text c
  pub point : is_point most c ≡ true

escape_small : (most b c : ℕ) → 127 ≤ most → escape_of b ≡ Some c → is_point most c ≡ true
escape_small most b c h e = grind (arith, nat_tests)

point_scalar : (most c : ℕ) → is_point most c ≡ true → IsScalar c
point_scalar most c e = let t = both (leb c most) (all_scalars (c ∷ [])) e in (both _ _ t.1).0

begins_parts : (close most b : ℕ) → begins_character close most b ≡ true → (b ≢ close) × (b ≢ line_feed) × (128 ≤ b → 128 ≤ most)
begins_parts close most b h = (λ e. grind (arith, nat_tests), λ e. grind (arith, nat_tests), λ e. grind (arith, nat_tests))

-- Code points are at most the last one.
pub scalar_point : (c : ℕ) → IsScalar c → is_point most_point c ≡ true
scalar_point c h = grind (arith, nat_tests)

-- no code point, or one, is read at the front
abbrev pub IsNextPoint : ℕ → ℕ → List ℕ → Option ℕ → List ℕ → Type 0
IsNextPoint close most bytes None rest = bytes ≡ close ∷ rest
IsNextPoint close most bytes (Some c) rest = IsCharacterAt close most bytes c rest

-- characters and the closing quote are read at the front
pub record AreCharactersAt (close most n : ℕ) (bytes cs rest : List ℕ) : Type 0 where
  pub text : List ℕ
  pub whole : bytes ≡ text ++ rest
  pub characters : AreCharacters close text cs
  pub points : list_all (is_point most) cs ≡ true
  pub few : length cs ≤ n

module _ (close most : ℕ) (small : close < 128) (low : 127 ≤ most) (high : 128 ≤ most → most ≡ most_point) where
  hex_character : (bytes rest : List ℕ) (c : ℕ) (after : List ℕ) → bytes ≡ open_brace ∷ rest → (r : AreHexDigits most 6 0 rest c after) → 0 < length r.digits
      → IsCharacterAt close most (backslash ∷ letter_x ∷ bytes) c after
  hex_character bytes rest c after opened r some =
      let spelled = append_assoc r.digits (close_brace ∷ []) after in
      let scalar : IsScalar (digits_value 16 r.digits) = rw r.value_is (point_scalar most c r.point) in
      record {
        text = backslash ∷ letter_x ∷ open_brace ∷ r.digits ++ close_brace ∷ [];
        whole = let w = r.whole in cc;
        character = subst (IsCharacter close (backslash ∷ letter_x ∷ open_brace ∷ r.digits ++ close_brace ∷ [])) r.value_is
            (Hexadecimal close r.digits (some, r.all) r.few scalar);
        point = r.point;
      }

  letter_taken : (b : ℕ) (bytes : List ℕ) (o : Option ℕ) → escape_of b ≡ o
      → Yields (λ (x : ℕ × List ℕ). IsCharacterAt close most (backslash ∷ b ∷ bytes) x.0 x.1) (or_fault o bytes (b ∷ bytes))
  letter_taken b bytes None e = err_yields
  letter_taken b bytes (Some c) e = ok_yields (record {
    text = backslash ∷ b ∷ [];
    whole = refl;
    character = Escaped close b c e;
    point = escape_small most b c low e;
  })

  escape_taken : (bytes : List ℕ) → Yields (λ (x : ℕ × List ℕ). IsCharacterAt close most (backslash ∷ bytes) x.0 x.1) (escape_at most bytes)
  unfolding escape_at
  escape_taken [] = err_yields
  escape_taken (b ∷ bytes) =
      if_yields (eqb b letter_x)
      (λ t. bind_yields _ (expect_yields open_brace bytes) (λ rest opened. map_yields (hex_taken most rest) (λ x r.
      subst (λ y. IsCharacterAt close most (backslash ∷ y ∷ bytes) x.0 x.1) (sym (eqb-true b letter_x t)) (hex_character bytes rest x.0 x.1 opened r.0 r.1))))
      (λ t. letter_taken b bytes (escape_of b) refl)

  -- a code point that begins with such a byte
  point_begins : (b : ℕ) (bytes : List ℕ) (c : ℕ) (rest : List ℕ) → begins_character close most b ≡ true → b ≢ backslash → IsPointOf (b ∷ bytes) c rest
      → IsCharacterAt close most (b ∷ bytes) c rest
  point_begins b bytes c rest begins other p =
      let parts = begins_parts close most b begins in
      let itself : c ≢ close → c ≢ backslash → c ≢ line_feed → is_point most c ≡ true → IsCharacterAt close most (b ∷ bytes) c rest =
      λ apart plain on point. record { text = encode_utf8 c; whole = p.whole; character = Itself close c p.scalar apart plain on; point = point } in
      ⊎_elim
      (λ t. let same : b ≡ c = let w = p.whole in let s = t.1 in cc in
      itself (λ e. parts.0 (same ∙ e)) (λ e. other (same ∙ e)) (λ e. parts.1 (same ∙ e)) (grind (arith, nat_tests)))
      (λ t. let same : b ≡ t.1 = let w = p.whole in let s = t.3 in cc in
      let most_is : most ≡ most_point = high (parts.2 (omega (arith, same, t.4))) in
      itself (λ e. absurd (omega (arith, e, t.0))) (λ e. absurd (omega (arith, e, t.0))) (λ e. absurd (omega (arith, e, t.0)))
      (rw most_is (scalar_point c p.scalar)))
      (first_byte c p.scalar)

  -- What is read as a character is one.
  pub character_taken : (bytes : List ℕ) → Yields (λ (x : ℕ × List ℕ). IsCharacterAt close most bytes x.0 x.1) (character_at close most bytes)
  unfolding character_at
  character_taken [] = err_yields
  character_taken (b ∷ bytes) =
      if_yields (eqb b backslash)
      (λ t. subst (λ y. Yields (λ (x : ℕ × List ℕ). IsCharacterAt close most (y ∷ bytes) x.0 x.1) (escape_at most bytes)) (sym (eqb-true b backslash t))
      (escape_taken bytes))
      (λ t. if_yields (begins_character close most b)
      (λ g. map_yields (point_yields (b ∷ bytes)) (λ x p. point_begins b bytes x.0 x.1 g (eqb-false b backslash t) p))
      (λ g. err_yields))

  -- What is read as the next code point is one, or it is the closing quote.
  pub next_taken : (bytes : List ℕ) → Yields (λ (x : Option ℕ × List ℕ). IsNextPoint close most bytes x.0 x.1) (next_point_at close most bytes)
  unfolding next_point_at
  next_taken [] = err_yields
  next_taken (b ∷ bytes) =
      if_yields (eqb b close)
      (λ t. ok_yields (ap (λ x. x ∷ bytes) (eqb-true b close t)))
      (λ t. bind_yields _ (character_taken (b ∷ bytes)) (λ x r. ok_yields r))

  closing_taken : (over : Why) (bytes : List ℕ) → Yields (λ (rest : List ℕ). bytes ≡ close ∷ rest) (closing_at over close most bytes)
  unfolding closing_at
  closing_taken over [] = err_yields
  closing_taken over (b ∷ bytes) =
      if_yields (eqb b close)
      (λ t. ok_yields (ap (λ x. x ∷ bytes) (eqb-true b close t)))
      (λ t. if_yields (begins_character close most b) (λ u. err_yields) (λ u. err_yields))

  none_more : (n : ℕ) (bytes rest : List ℕ) → bytes ≡ close ∷ rest → AreCharactersAt close most n bytes [] rest
  none_more n bytes rest e = record { text = close ∷ []; whole = e; characters = Closed close; points = refl; few = omega arith }

  points_taken : (over : Why) (n : ℕ) (bytes : List ℕ) (o : Option ℕ) (after : List ℕ) → IsNextPoint close most bytes o after
      → Yields (λ (x : List ℕ × List ℕ). AreCharactersAt close most n after x.0 x.1) (characters_at over close most n after)
      → Yields (λ (x : List ℕ × List ℕ). AreCharactersAt close most (suc n) bytes x.0 x.1) (points_after (characters_at over close most n) (o, after))
  points_taken over n bytes None after first later = ok_yields (none_more (suc n) bytes after first)
  points_taken over n bytes (Some c) after first later = bind_yields _ later (λ x others. ok_yields (record {
    text = first.text ++ others.text;
    whole = first.whole ∙ ap (λ y. first.text ++ y) others.whole ∙ sym (append_assoc first.text others.text x.1);
    characters = OneMore close c first.text others.text x.0 first.character others.characters;
    points = rw (first.point, others.points) refl;
    few = omega (arith, others.few);
  }))

  -- What are read as characters are characters.
  pub characters_taken : (over : Why) (n : ℕ) (bytes : List ℕ)
      → Yields (λ (x : List ℕ × List ℕ). AreCharactersAt close most n bytes x.0 x.1) (characters_at over close most n bytes)
  unfolding characters_at
  characters_taken over zero bytes = bind_yields _ (closing_taken over bytes) (λ rest e. ok_yields (none_more 0 bytes rest e))
  characters_taken over (suc n) bytes = bind_yields _ (next_taken bytes) (λ x first. points_taken over n bytes x.0 x.1 first (characters_taken over n x.1))

-- code points are scalar values, and those of ASCII are bytes
pub points_scalar : (most : ℕ) (cs : List ℕ) → list_all (is_point most) cs ≡ true → all_scalars cs ≡ true
points_scalar most [] e = refl
points_scalar most (c ∷ cs) e = let t = both (is_point most c) (list_all (is_point most) cs) e in rw (point_scalar most c t.0, points_scalar most cs t.1) refl

-- Each of the code points is at most the largest one.
pub points_low : (most : ℕ) (cs : List ℕ) (i : ℕ) → list_all (is_point most) cs ≡ true → get_or cs i 0 ≤ most
points_low most [] i e = omega arith
points_low most (c ∷ cs) zero e =
    let t = both (is_point most c) (list_all (is_point most) cs) e in leb-true c most (both (leb c most) (all_scalars (c ∷ [])) t.0).0
points_low most (c ∷ cs) (suc i) e = points_low most cs i (both (is_point most c) (list_all (is_point most) cs) e).1
