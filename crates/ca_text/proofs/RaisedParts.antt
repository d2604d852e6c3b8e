-- The readers of numbers, names, characters and binaries, with raised limits and without.
use Rattle.std.proofs.Common.{◌≡◌, ℕ, zero, suc, ◌+◌, ◌-◌, ◌*◌, ◌^◌, ◌<◌, ◌≤◌, Bool, true, false, ltb, leb, eqb, ◌&&◌, List, [], ◌∷◌, ⊎_elim, length-append, ap, ◌++◌, length, drop, Option, None, Some, Ok, refl, sym, subst, ◌∙◌, arith, length-drop}
use Rattle.std.proofs.lemmas.Bool.{leb-true, leb-false, le-leb}
use Rattle.std.proofs.lemmas.Bool.Decides.{nat_tests}
use Rattle.std.specs.Char.{encode_utf8, is_ascii_digit, is_ascii_hexdigit, digit_value}
use Rattle.ca_text.specs.Bytes.{backslash, close_angle, close_brace, comma, digit_zero, double_quote, letter_x, minus_sign, open_angle, open_brace}
use Rattle.ca_text.specs.Grammar.{escape_of, most_byte}
use Rattle.ca_text.specs.declared.fault.Why.{Why}
use Rattle.ca_text.specs.declared.fault.Why.TheVariants.{Syntax, AtomTooLong}
use Rattle.ca_text.specs.Inner.Reading.{Read, syntax_fault, expect, digits_after, number_at, integer_at, point_at, is_point, may_stand, hex_after, hex_at, or_fault, escape_at, begins_character, character_at, next_point_at, closing_at, points_after, characters_at, string_at, name_length, name_at, series_rest, series_at, most_shown, one_byte_at, segment_at, after_segment_at, segment_step, bytes_at, binary_at}
use Rattle.ca_text.proofs.Tools.{either_way}
use Rattle.ca_text.proofs.LocalParts.{characters_local}
use Rattle.ca_text.proofs.LocalTerms.{skip_shorter, name_within, segment_step_local}
use Rattle.ca_text.proofs.Points.{PointRead, PointStuck, encode_some, point_cases, stuck_some}
use Rattle.ca_text.proofs.Raised.{Grown, Past, Within, Beside, itself, behind, ReadsBeside, grown_itself, grown_before, grown_most, grown_stays, grown_raised, within_past, ok_beside, fault_beside, past_beside, beside_more, if_beside, bind_within, bind_past, bind_known, bind_beside, skip_beside, local_within}

module _ (raises : Why → Bool) (plain : raises Syntax ≡ false) where
  -- A fault of syntax stays.
  pub syntax_beside : {X : Type 0} {rest_of : X → List ℕ} {left : ℕ} (bytes : List ℕ) → length bytes ≤ left
      → Beside raises rest_of left (syntax_fault bytes) (syntax_fault bytes)
  syntax_beside bytes h = fault_beside Syntax bytes plain h

  -- A byte is read alike with raised limits.
  pub expect_beside : (c : ℕ) (bytes : List ℕ) → Beside raises itself (length bytes) (expect c bytes) (expect c bytes)
  unfolding expect
  expect_beside c [] = syntax_beside [] (omega arith)
  expect_beside c (b ∷ bytes) = if_beside (eqb b c) (λ h. ok_beside (omega arith)) (λ h. syntax_beside (b ∷ bytes) (omega arith))

  digits_beside : (bytes : List ℕ) (most n : ℕ) → Beside raises behind (length bytes) (digits_after most n bytes) (digits_after most n bytes)
  unfolding digits_after
  digits_beside [] most n = ok_beside (omega arith)
  digits_beside (b ∷ bytes) most n =
      if_beside (is_ascii_digit b)
      (λ h. if_beside (leb (n * 10 + (b - digit_zero)) most) (λ i. beside_more (omega arith) (digits_beside bytes most (n * 10 + (b - digit_zero))))
      (λ i. syntax_beside (b ∷ bytes) (omega arith)))
      (λ h. ok_beside (omega arith))

  number_beside : (most : ℕ) → ReadsBeside raises (number_at most) (number_at most)
  unfolding number_at
  number_beside most [] = syntax_beside [] (omega arith)
  number_beside most (b ∷ bytes) = if_beside (is_ascii_digit b) (λ h. digits_beside (b ∷ bytes) most 0) (λ h. syntax_beside (b ∷ bytes) (omega arith))

  -- An integer is read alike with raised limits.
  pub integer_beside : ReadsBeside raises integer_at integer_at
  unfolding integer_at
  integer_beside [] = syntax_beside [] (omega arith)
  integer_beside (b ∷ bytes) =
      if_beside (eqb b minus_sign)
      (λ h. beside_more (omega arith) (bind_beside _ _ (number_beside (2 ^ 63) bytes) (λ x. ok_beside (omega arith))))
      (λ h. bind_beside _ _ (number_beside (2 ^ 63 - 1) (b ∷ bytes)) (λ x. ok_beside (omega arith)))

  -- ---- code points

  point_beside : ReadsBeside raises point_at point_at
  point_beside bytes =
      let same : Read ℕ → Type 0 = λ r. Beside raises behind (length bytes) r r in
      ⊎_elim
      (λ (p : PointRead bytes). subst same (sym p.read)
      (ok_beside (omega (arith, ap (λ (l : List ℕ). length l) p.is.whole, length-append (encode_utf8 p.point) p.rest))))
      (λ (k : PointStuck bytes). subst same (sym k.read)
      (syntax_beside k.behind (omega (arith, ap (λ (l : List ℕ). length l) k.whole, length-append k.front k.behind))))
      (point_cases bytes)

  hex_after_beside : (bytes : List ℕ) (most more c : ℕ) → Beside raises behind (length bytes) (hex_after most more c bytes) (hex_after most more c bytes)
  unfolding hex_after
  hex_after_beside [] most more c = syntax_beside [] (omega arith)
  hex_after_beside (b ∷ bytes) most more c =
      let next = c * 16 + digit_value b in
      if_beside (is_ascii_hexdigit b && ltb 0 more)
      (λ h. if_beside (may_stand most (more - 1) next) (λ i. beside_more (omega arith) (hex_after_beside bytes most (more - 1) next))
      (λ i. syntax_beside (b ∷ bytes) (omega arith)))
      (λ h. if_beside (eqb b close_brace && is_point most c) (λ i. ok_beside (omega arith)) (λ i. syntax_beside (b ∷ bytes) (omega arith)))

  hex_beside : (most : ℕ) → ReadsBeside raises (hex_at most) (hex_at most)
  unfolding hex_at
  hex_beside most [] = syntax_beside [] (omega arith)
  hex_beside most (b ∷ bytes) =
      if_beside (is_ascii_hexdigit b) (λ h. beside_more (omega arith) (hex_after_beside bytes most 5 (digit_value b)))
      (λ h. syntax_beside (b ∷ bytes) (omega arith))

  letter_beside : (o : Option ℕ) (b : ℕ) (bytes : List ℕ)
      → Beside raises behind (length (b ∷ bytes)) (or_fault o bytes (b ∷ bytes)) (or_fault o bytes (b ∷ bytes))
  letter_beside None b bytes = syntax_beside (b ∷ bytes) (omega arith)
  letter_beside (Some c) b bytes = ok_beside (omega arith)

  escape_beside : (most : ℕ) → ReadsBeside raises (escape_at most) (escape_at most)
  unfolding escape_at
  escape_beside most [] = syntax_beside [] (omega arith)
  escape_beside most (b ∷ bytes) =
      if_beside (eqb b letter_x)
      (λ h. beside_more (omega arith) (bind_beside _ _ (expect_beside open_brace bytes) (λ rest. hex_beside most rest)))
      (λ h. letter_beside (escape_of b) b bytes)

  character_beside : (close most : ℕ) → ReadsBeside raises (character_at close most) (character_at close most)
  unfolding character_at
  character_beside close most [] = syntax_beside [] (omega arith)
  character_beside close most (b ∷ bytes) =
      if_beside (eqb b backslash) (λ h. beside_more (omega arith) (escape_beside most bytes)) (λ h.
      if_beside (begins_character close most b) (λ i. point_beside (b ∷ bytes)) (λ i. syntax_beside (b ∷ bytes) (omega arith)))

  next_beside : (close most : ℕ) → ReadsBeside raises (next_point_at close most) (next_point_at close most)
  unfolding next_point_at
  next_beside close most [] = syntax_beside [] (omega arith)
  next_beside close most (b ∷ bytes) =
      if_beside (eqb b close) (λ h. ok_beside (omega arith)) (λ h. bind_beside _ _ (character_beside close most (b ∷ bytes)) (λ x. ok_beside (omega arith)))

  point_past : (close most b : ℕ) (bytes : List ℕ) → begins_character close most b ≡ true → Past behind (length (b ∷ bytes)) (point_at (b ∷ bytes))
  point_past close most b bytes begins =
      let lead : 128 ≤ b → (0xc2 ≤ b) × (b ≤ 0xf4) = λ h. (grind (arith, nat_tests), grind (arith, nat_tests)) in
      ⊎_elim
      (λ (p : PointRead (b ∷ bytes)). subst (Past behind (length (b ∷ bytes))) (sym p.read)
      (omega (arith, ap (λ (l : List ℕ). length l) p.is.whole, length-append (encode_utf8 p.point) p.rest, encode_some p.point p.is.scalar)))
      (λ (k : PointStuck (b ∷ bytes)). subst (Past behind (length (b ∷ bytes))) (sym k.read)
      (omega (arith, ap (λ (l : List ℕ). length l) k.whole, length-append k.front k.behind, stuck_some b bytes lead k)))
      (point_cases (b ∷ bytes))

  character_past : (close most b : ℕ) (bytes : List ℕ) → begins_character close most b ≡ true
      → Past behind (length (b ∷ bytes)) (character_at close most (b ∷ bytes))
  unfolding character_at
  character_past close most b bytes begins =
      either_way (eqb b backslash)
      (λ h. rw h (within_past behind (escape_at most bytes) (omega arith) (escape_beside most bytes).within))
      (λ h. rw (h, begins) (point_past close most b bytes begins))

  -- a character that begins here is taken, or the fault stands behind its first byte
  next_past : (close most b : ℕ) (bytes : List ℕ) → eqb b close ≡ false → begins_character close most b ≡ true
      → Past behind (length (b ∷ bytes)) (next_point_at close most (b ∷ bytes))
  unfolding next_point_at
  next_past close most b bytes apart begins =
      rw apart (bind_past behind behind (length (b ∷ bytes)) (character_at close most (b ∷ bytes)) (λ x. Ok (Some x.0, x.1))
      (character_past close most b bytes begins) (λ x. omega arith))

  after_within : (next : List ℕ → Read (List ℕ)) → ((bytes : List ℕ) → Within behind (length bytes) (next bytes))
      → (x : Option ℕ × List ℕ) → Within behind (length x.1) (points_after next x)
  after_within next l (None, rest) = omega arith
  after_within next l (Some c, rest) = bind_within behind behind (length rest) (next rest) (λ y. Ok (c ∷ y.0, y.1)) (l rest) (λ y. omega arith)

  -- A code point more than may stand is got past where the limit is raised.
  pub characters_past : (over : Why) (close most n b : ℕ) (bytes : List ℕ) → eqb b close ≡ false → begins_character close most b ≡ true
      → Past behind (length (b ∷ bytes)) (characters_at over close most (suc n) (b ∷ bytes))
  unfolding characters_at
  characters_past over close most n b bytes apart begins =
      bind_past behind behind (length (b ∷ bytes)) (next_point_at close most (b ∷ bytes)) (λ x. points_after (characters_at over close most n) x)
      (next_past close most b bytes apart begins)
      (after_within (characters_at over close most n) (local_within (characters_at over close most n) (characters_local over close most n)))

  closing_beside : (over : Why) → raises over ≡ false → (close most : ℕ) (bytes : List ℕ)
      → Beside raises itself (length bytes) (closing_at over close most bytes) (closing_at over close most bytes)
  unfolding closing_at
  closing_beside over stays close most [] = syntax_beside [] (omega arith)
  closing_beside over stays close most (b ∷ bytes) =
      if_beside (eqb b close) (λ h. ok_beside (omega arith)) (λ h.
      if_beside (begins_character close most b) (λ i. fault_beside over (b ∷ bytes) stays (omega arith)) (λ i. syntax_beside (b ∷ bytes) (omega arith)))

  -- one more character where there could be none
  more_beside : (over : Why) → raises over ≡ true → (close most n : ℕ)
      → ReadsBeside raises (characters_at over close most zero) (characters_at over close most (suc n))
  unfolding characters_at closing_at next_point_at character_at
  more_beside over grows close most n [] = syntax_beside [] (omega arith)
  more_beside over grows close most n (b ∷ bytes) =
      either_way (eqb b close) (λ h. rw h (ok_beside (omega arith))) (λ h.
      either_way (begins_character close most b)
      (λ i. past_beside over (b ∷ bytes) _ _ grows (rw (i, h) refl) (characters_past over close most n b bytes h i))
      (λ i. let slash : eqb b backslash ≡ false = grind (arith, nat_tests) in rw (i, slash, h) (syntax_beside (b ∷ bytes) (omega arith))))

  after_beside : (p q : List ℕ → Read (List ℕ)) → ReadsBeside raises p q → (x : Option ℕ × List ℕ)
      → Beside raises behind (length x.1) (points_after p x) (points_after q x)
  after_beside p q l (None, rest) = ok_beside (omega arith)
  after_beside p q l (Some c, rest) = bind_beside _ _ (l rest) (λ y. ok_beside (omega arith))

  -- Characters between quotes, with raised limits and without.
  pub characters_beside : (over : Why) (close most n m : ℕ) → Grown raises over n m
      → ReadsBeside raises (characters_at over close most n) (characters_at over close most m)
  unfolding characters_at
  characters_beside over close most zero zero g bytes =
      bind_beside _ _ (closing_beside over (grown_stays raises over zero g) close most bytes) (λ rest. ok_beside (omega arith))
  characters_beside over close most zero (suc m) g bytes = more_beside over (grown_raised raises over m g) close most m bytes
  characters_beside over close most (suc n) zero g bytes = absurd (omega (arith, grown_most raises over (suc n) zero g))
  characters_beside over close most (suc n) (suc m) g bytes =
      bind_beside _ _ (next_beside close most bytes)
      (after_beside (characters_at over close most n) (characters_at over close most m)
      (characters_beside over close most n m (grown_before raises over n m g)))

  -- A string is read alike with raised limits.
  pub string_beside : (most : ℕ) → ReadsBeside raises (string_at most) (string_at most)
  string_beside most bytes = characters_beside Syntax double_quote most (length bytes) (length bytes) (grown_itself raises Syntax (length bytes) plain) bytes

  -- ---- names

  name_over : (most more : ℕ) (bytes : List ℕ) → most < more → most < name_length bytes → Past behind (length (drop most bytes)) (name_at more bytes)
  unfolding name_at
  name_over most more bytes less long =
      let within = name_within bytes in
      either_way (leb (name_length bytes) more)
      (λ h. rw h (omega (arith, length-drop most bytes, length-drop (name_length bytes) bytes)))
      (λ h. rw h (omega (arith, length-drop most bytes, length-drop more bytes, leb-false (name_length bytes) more h)))

  name_raised : (most more : ℕ) → raises AtomTooLong ≡ true → most < more → ReadsBeside raises (name_at most) (name_at more)
  unfolding name_at
  name_raised most more grows less bytes =
      either_way (leb (name_length bytes) most)
      (λ h. let k : leb (name_length bytes) more ≡ true = le-leb (name_length bytes) more (omega (arith, leb-true (name_length bytes) most h)) in
      rw (h, k) (ok_beside (omega (arith, length-drop (name_length bytes) bytes))))
      (λ h. beside_more (omega (arith, length-drop most bytes))
      (past_beside AtomTooLong (drop most bytes) _ _ grows (rw h refl) (name_over most more bytes less (leb-false (name_length bytes) most h))))

  name_stays : (most : ℕ) → raises AtomTooLong ≡ false → ReadsBeside raises (name_at most) (name_at most)
  unfolding name_at
  name_stays most stays bytes =
      if_beside (leb (name_length bytes) most)
      (λ h. ok_beside (omega (arith, length-drop (name_length bytes) bytes)))
      (λ h. fault_beside AtomTooLong (drop most bytes) stays (omega (arith, length-drop most bytes)))

  -- A name, with raised limits and without.
  pub name_beside : (most more : ℕ) → Grown raises AtomTooLong most more → ReadsBeside raises (name_at most) (name_at more)
  name_beside most more g = either_way (raises AtomTooLong)
      (λ h. name_raised most more h (g.more h))
      (λ h. subst (λ n. ReadsBeside raises (name_at most) (name_at n)) (g.same h) (name_stays most h))

  -- ---- parts one after another

  -- A limit on the parts is raised, or not. A step that tells of a further part was told that there may be one, where it is
  -- raised: so the parts never come to the end of their count.
  module _ {B : Type 0} (v : Why) (step wide : ℕ → List ℕ → Read (List B × Bool)) (each : (n m : ℕ) → Grown raises v n m → ReadsBeside raises (step n) (wide m))
      (within : (n : ℕ) (bytes : List ℕ) → Within behind (length bytes) (wide n bytes))
      (some : (n : ℕ) (bytes : List ℕ) (x : (List B × Bool) × List ℕ) → step n bytes ≡ Ok x → x.0.1 ≡ true → raises v ≡ true → 0 < n) where
    rest_within : (front : List B) (next : List ℕ → Read (List B)) → ((bytes : List ℕ) → Within behind (length bytes) (next bytes))
        → (more : Bool) (rest : List ℕ)
        → Within behind (length rest) (series_rest front next more rest)
    rest_within front next l true rest = bind_within behind behind (length rest) (next rest) (λ r. Ok (front ++ r.0, r.1)) (l rest) (λ r. omega arith)
    rest_within front next l false rest = omega arith

    series_within : (n : ℕ) (bytes : List ℕ) → Within behind (length bytes) (series_at wide n bytes)
    unfolding series_at
    series_within zero bytes = omega arith
    series_within (suc n) bytes =
        bind_within behind behind (length bytes) (wide n bytes) (λ x. series_rest x.0.0 (series_at wide n) x.0.1 x.1) (within n bytes)
        (λ x. rest_within x.0.0 (series_at wide n) (series_within n) x.0.1 x.1)

    rest_beside : (front : List B) (p q : List ℕ → Read (List B)) (more : Bool) (rest : List ℕ) → (more ≡ true → ReadsBeside raises p q)
        → Beside raises behind (length rest) (series_rest front p more rest) (series_rest front q more rest)
    rest_beside front p q true rest l = bind_beside _ _ (l refl rest) (λ r. ok_beside (omega arith))
    rest_beside front p q false rest l = ok_beside (omega arith)

    -- Parts one after another, with raised limits and without.
    pub series_beside : (n m : ℕ) → Grown raises v n m → (raises v ≡ true → 0 < n) → ReadsBeside raises (series_at step n) (series_at wide m)
    unfolding series_at
    series_beside zero zero g few bytes = syntax_beside bytes (omega arith)
    series_beside zero (suc m) g few bytes = absurd (omega (arith, few (grown_raised raises v m g)))
    series_beside (suc n) zero g few bytes = absurd (omega (arith, grown_most raises v (suc n) zero g))
    series_beside (suc n) (suc m) g few bytes =
        let less = grown_before raises v n m g in
        bind_known (λ x. series_rest x.0.0 (series_at step n) x.0.1 x.1) (λ x. series_rest x.0.0 (series_at wide m) x.0.1 x.1) (each n m less bytes)
        (λ x e. (rest_beside x.0.0 (series_at step n) (series_at wide m) x.0.1 x.1 (λ h. series_beside n m less (some n bytes x e h))).raised)
        (λ x. rest_within x.0.0 (series_at wide m) (series_within m) x.0.1 x.1)

  -- ---- binaries

  one_byte_beside : ReadsBeside raises one_byte_at one_byte_at
  one_byte_beside bytes = bind_beside _ _ (number_beside most_byte bytes) (λ x. ok_beside (omega arith))

  segment_beside : ReadsBeside raises segment_at segment_at
  unfolding segment_at
  segment_beside [] = one_byte_beside []
  segment_beside (b ∷ bytes) = if_beside (eqb b double_quote) (λ h. beside_more (omega arith) (string_beside most_shown bytes))
      (λ h. one_byte_beside (b ∷ bytes))

  after_segment_beside : ReadsBeside raises after_segment_at after_segment_at
  unfolding after_segment_at
  after_segment_beside [] = syntax_beside [] (omega arith)
  after_segment_beside (b ∷ bytes) =
      if_beside (eqb b comma) (λ h. ok_beside (omega (arith, skip_shorter bytes))) (λ h.
      if_beside (eqb b close_angle) (λ i. beside_more (omega arith) (bind_beside _ _ (expect_beside close_angle bytes) (λ rest. ok_beside (omega arith))))
      (λ i. syntax_beside (b ∷ bytes) (omega arith)))

  segment_step_beside : (n m : ℕ) → Grown raises Syntax n m → ReadsBeside raises (segment_step n) (segment_step m)
  unfolding segment_step
  segment_step_beside n m g bytes =
      bind_beside _ _ (segment_beside bytes) (λ x.
      bind_beside _ _ (skip_beside after_segment_beside x.1) (λ y. ok_beside (omega arith)))

  bytes_beside : ReadsBeside raises bytes_at bytes_at
  unfolding bytes_at
  bytes_beside [] = syntax_beside [] (omega arith)
  bytes_beside (b ∷ bytes) =
      let n = length (b ∷ bytes) in
      if_beside (eqb b close_angle) (λ h. beside_more (omega arith) (bind_beside _ _ (expect_beside close_angle bytes) (λ rest. ok_beside (omega arith))))
      (λ h. series_beside Syntax segment_step segment_step segment_step_beside (λ k. local_within (segment_step k) (segment_step_local k))
      (λ k ys x e i j. let stays = sym plain ∙ j in absurd cc) n n (grown_itself raises Syntax n plain) (λ j. omega arith) (b ∷ bytes))

  -- A binary is read alike with raised limits.
  pub binary_beside : ReadsBeside raises binary_at binary_at
  binary_beside bytes =
      bind_beside _ _ (expect_beside open_angle bytes) (λ rest.
      bind_beside _ _ (skip_beside bytes_beside rest) (λ x. ok_beside (omega arith)))
