-- Where the reading of characters between quotes halts, what it took begins such characters.
use Rattle.std.proofs.Common.{◌≡◌, ◌≢◌, ℕ, zero, suc, ◌+◌, ◌-◌, ◌*◌, ◌<◌, ◌≤◌, true, false, ltb, leb, eqb, ◌&&◌, ◌||◌, List, [], ◌∷◌, ◌++◌, length, Option, None, Some, Ok, refl, sym, subst, ◌∙◌, arith, lt-ltb, ⊎_elim}
use Rattle.std.proofs.lemmas.List.{append-nil}
use Rattle.std.proofs.lemmas.Bool.{leb-true, ltb-true, ltb-false}
use Rattle.std.proofs.lemmas.Bool.Decides.{nat_tests}
use Rattle.std.specs.List.{list_all}
use Rattle.std.specs.Char.{is_ascii_hexdigit, digit_value}
use Rattle.ca_text.specs.Bytes.{backslash, close_brace, digit_zero, letter_n, letter_x, line_feed, open_brace}
use Rattle.ca_text.specs.Grammar.{escape_of, IsCharacter, AreCharacters, Closed, OneMore}
use Rattle.ca_text.specs.declared.fault.Why.{Why}
use Rattle.ca_text.specs.declared.fault.Why.TheVariants.{Syntax}
use Rattle.ca_text.specs.Inner.Reading.{◌>>=◌, Read, expect, point_at, is_point, may_stand, hex_after, hex_at, or_fault, escape_at, begins_character, character_at, next_point_at, closing_at, points_after, characters_at, most_point}
use Rattle.ca_text.proofs.Yields.{expect_yields}
use Rattle.ca_text.proofs.Tools.{both, either}
use Rattle.ca_text.proofs.Tools.{either_way}
use Rattle.ca_text.proofs.Points.{point_halts}
use Rattle.ca_text.proofs.CharactersAgain.{hex_end}
use Rattle.ca_text.proofs.Again.{expect_again}
use Rattle.ca_text.proofs.Characters.{character_taken, next_taken}
use Rattle.ca_text.proofs.Halts.{GoesOn, HaltsAt, Halts, Reads, ok_halts, here_halts, if_halts, whole_halts, bind_halts, map_halts, behind_as, as_halts, cons_halts, same_halts, expect_halts}

-- ---- what stands behind a backslash

surrogate : (c : ℕ) → c ≤ most_point → is_point most_point c ≡ false → is_point most_point (c * 16 + 0) ≡ true
surrogate c le other = grind (arith, nat_tests)

point_stands : (most more c : ℕ) → is_point most c ≡ true → may_stand most more c ≡ true
point_stands most more c point = grind (arith, nat_tests)

digit_small : (b : ℕ) → is_ascii_hexdigit b ≡ true → digit_value b < 128
digit_small b h = grind (arith, nat_tests)

module _ (most : ℕ) (low : 127 ≤ most) (high : 128 ≤ most → most ≡ most_point) where
  small_point : (c : ℕ) → c < 128 → is_point most c ≡ true
  small_point c h = grind (arith, nat_tests)

  -- a surrogate and a digit more
  next_point : (c : ℕ) → c ≤ most → is_point most c ≡ false → is_point most (c * 16 + 0) ≡ true
  next_point c le other =
      either_way (ltb most 128)
      (λ h. let point = small_point c (omega (arith, le, ltb-true most 128 h)) in absurd cc)
      (λ h. let most_is = high (ltb-false most 128 h) in rw most_is (surrogate c (omega (arith, le, most_is)) (rw most_is at other)))

  hex_zero : (more c : ℕ) → 0 < more → is_point most (c * 16 + 0) ≡ true → hex_after most more c (digit_zero ∷ close_brace ∷ []) ≡ Ok (c * 16 + 0, [])
  unfolding hex_after
  hex_zero more c some point =
      let may = point_stands most (more - 1) (c * 16 + 0) point in
      rw (lt-ltb 0 more some, may, point) refl

  -- digits that may stand are worth a code point, or a digit more makes one of them
  hex_goes : (more c : ℕ) → may_stand most more c ≡ true → GoesOn (Reads (hex_after most more c)) []
  hex_goes more c may =
      either_way (is_point most c)
      (λ h. (close_brace ∷ [], c, hex_end most more c [] h))
      (λ h. let parts = both (leb c most) (ltb 0 more || is_point most c) may in
      let some : 0 < more = ⊎_elim (λ i. ltb-true 0 more i) (λ i. absurd cc) (either (ltb 0 more) (is_point most c) parts.1) in
      (digit_zero ∷ close_brace ∷ [], c * 16 + 0, hex_zero more c some (next_point c (leb-true c most parts.0) h)))

  hex_after_halts : (bytes : List ℕ) (more c : ℕ) → HaltsAt (Reads (hex_after most more c)) bytes (hex_after most more c bytes)
  unfolding hex_after
  hex_after_halts [] more c = here_halts Syntax []
  hex_after_halts (b ∷ bytes) more c =
      let next = c * 16 + digit_value b in
      if_halts (is_ascii_hexdigit b && ltb 0 more)
      (λ h. if_halts (may_stand most (more - 1) next)
      (λ i. cons_halts (hex_after most more c) (hex_after most (more - 1) next) b (λ zs. rw (h, i) refl) (hex_goes (more - 1) next i)
      (hex_after_halts bytes (more - 1) next))
      (λ i. here_halts Syntax (b ∷ bytes)))
      (λ h. if_halts (eqb b close_brace && is_point most c) (λ i. ok_halts) (λ i. here_halts Syntax (b ∷ bytes)))

  hex_halts : Halts (hex_at most) (Reads (hex_at most))
  unfolding hex_at
  hex_halts [] = here_halts Syntax []
  hex_halts (b ∷ bytes) =
      if_halts (is_ascii_hexdigit b)
      (λ h. let n = digit_value b in
      let closed = hex_end most 5 n [] (small_point n (digit_small b h)) in
      cons_halts (hex_at most) (hex_after most 5 n) b (λ zs. rw h refl) (close_brace ∷ [], n, closed) (hex_after_halts bytes 5 n))
      (λ h. here_halts Syntax (b ∷ bytes))

  zero_read : hex_at most (digit_zero ∷ close_brace ∷ []) ≡ Ok (0, [])
  unfolding hex_at
  zero_read = hex_end most 5 0 [] (small_point 0 (omega arith))

  abbrev opened : List ℕ → Read ℕ
  opened bytes = expect open_brace bytes >>= λ rest. hex_at most rest

  opened_is : (zs : List ℕ) → opened (open_brace ∷ zs) ≡ hex_at most zs
  opened_is zs = rw (expect_again open_brace zs) refl

  opened_halts : Halts opened (Reads opened)
  opened_halts bytes = bind_halts _ (expect_halts open_brace bytes) (λ rest e. whole_halts ((expect_yields open_brace bytes).is rest e)
      (cons_halts opened (hex_at most) open_brace opened_is (digit_zero ∷ close_brace ∷ [], 0, zero_read) (hex_halts rest)))

  letter_halts : (o : Option ℕ) (b : ℕ) (bytes : List ℕ) → HaltsAt (Reads (escape_at most)) (b ∷ bytes) (or_fault o bytes (b ∷ bytes))
  letter_halts None b bytes = here_halts Syntax (b ∷ bytes)
  letter_halts (Some c) b bytes = ok_halts

  escape_halts : Halts (escape_at most) (Reads (escape_at most))
  unfolding escape_at
  escape_halts [] = here_halts Syntax []
  escape_halts (b ∷ bytes) =
      if_halts (eqb b letter_x)
      (λ h. cons_halts (escape_at most) opened b (λ zs. rw h refl)
      (open_brace ∷ digit_zero ∷ close_brace ∷ [], 0, opened_is (digit_zero ∷ close_brace ∷ []) ∙ zero_read) (opened_halts bytes))
      (λ h. letter_halts (escape_of b) b bytes)

-- ---- characters

abbrev IsPointAt : ℕ → ℕ → List ℕ → ℕ → Type 0
IsPointAt close most text c = IsCharacter close text c × (is_point most c ≡ true)

-- characters and the closing quote, at most so many
abbrev pub AreWithin : ℕ → ℕ → ℕ → List ℕ → List ℕ → Type 0
AreWithin close most n text cs = AreCharacters close text cs × (list_all (is_point most) cs ≡ true) × (length cs ≤ n)

module _ (close most : ℕ) (small : close < 128) (low : 127 ≤ most) (high : 128 ≤ most → most ≡ most_point) where
  newline_read : escape_at most (letter_n ∷ []) ≡ Ok (line_feed, [])
  unfolding escape_at
  newline_read = refl

  character_halts : Halts (character_at close most) (Reads (character_at close most))
  unfolding character_at
  character_halts [] = here_halts Syntax []
  character_halts (b ∷ bytes) =
      if_halts (eqb b backslash)
      (λ h. cons_halts (character_at close most) (escape_at most) b (λ zs. rw h refl) (letter_n ∷ [], line_feed, newline_read)
      (escape_halts most low high bytes))
      (λ h. if_halts (begins_character close most b)
      (λ i. same_halts (character_at close most) point_at b (λ zs. rw (h, i) refl) (point_halts (b ∷ bytes)))
      (λ i. here_halts Syntax (b ∷ bytes)))

  one_halts : Halts (character_at close most) (IsPointAt close most)
  one_halts bytes =
      as_halts (λ text c is. let r = (character_taken close most small low high text).is (c, []) is in
      let whole : r.text ≡ text = sym (r.whole ∙ append-nil r.text) in
      (c, subst (λ x. IsPointAt close most x c) whole (r.character, r.point)))
      (character_halts bytes)

  next_halts : Halts (next_point_at close most) (IsPointAt close most)
  unfolding next_point_at
  next_halts [] = here_halts Syntax []
  next_halts (b ∷ bytes) = if_halts (eqb b close) (λ h. ok_halts) (λ h. bind_halts _ (one_halts (b ∷ bytes)) (λ x e. ok_halts))

  closing_halts : (over : Why) (n : ℕ) (bytes : List ℕ) → HaltsAt (AreWithin close most n) bytes (closing_at over close most bytes)
  unfolding closing_at
  closing_halts over n [] = here_halts Syntax []
  closing_halts over n (b ∷ bytes) =
      if_halts (eqb b close) (λ h. ok_halts)
      (λ h. if_halts (begins_character close most b) (λ i. here_halts over (b ∷ bytes)) (λ i. here_halts Syntax (b ∷ bytes)))

  one_more : (n c : ℕ) (first rest cs : List ℕ) → IsPointAt close most first c → AreWithin close most n rest cs
      → AreWithin close most (suc n) (first ++ rest) (c ∷ cs)
  one_more n c first rest cs is are = (OneMore close c first rest cs is.0 are.0, rw (is.1, are.1) refl, omega (arith, are.2))

  -- the closing quote alone
  closed : (n : ℕ) → AreWithin close most n (close ∷ []) []
  closed n = (Closed close, refl, omega arith)

  behind_next : (over : Why) (n : ℕ) (bytes : List ℕ) (o : Option ℕ) (after : List ℕ) → Halts (characters_at over close most n) (AreWithin close most n)
      → next_point_at close most bytes ≡ Ok (o, after)
      → HaltsAt (AreWithin close most (suc n)) bytes (points_after (characters_at over close most n) (o, after))
  behind_next over n bytes None after later e = ok_halts
  behind_next over n bytes (Some c) after later e =
      let first = (next_taken close most small low high bytes).is (Some c, after) e in
      let is : IsPointAt close most first.text c = (first.character, first.point) in
      whole_halts first.whole
      (behind_as first.text (close ∷ [], c ∷ [], one_more n c first.text (close ∷ []) [] is (closed n))
      (λ part cs are. (c ∷ cs, one_more n c first.text part cs is are)) (bind_halts _ (later after) (λ x k. ok_halts)))

  within_halts : (over : Why) (n : ℕ) → Halts (characters_at over close most n) (AreWithin close most n)
  unfolding characters_at
  within_halts over zero bytes = bind_halts _ (closing_halts over 0 bytes) (λ x e. ok_halts)
  within_halts over (suc n) bytes =
      bind_halts _ (map_halts (λ part c is. (close ∷ [], c ∷ [], one_more n c part (close ∷ []) [] is (closed n))) (next_halts bytes))
      (λ x e. behind_next over n bytes x.0 x.1 (within_halts over n) e)

-- Where the reading of characters between quotes halts, what it took goes on to such characters.
pub characters_halts : (over : Why) (close most n : ℕ) → close < 128 → close ≢ backslash → 127 ≤ most → (128 ≤ most → most ≡ most_point)
    → Halts (characters_at over close most n) (AreWithin close most n)
characters_halts over close most n small slash low high = within_halts close most small low high over n
