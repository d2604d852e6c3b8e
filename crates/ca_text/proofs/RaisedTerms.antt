-- Terms read with raised limits, beside what is read without.
use Rattle.std.proofs.Common.{◌≡◌, ℕ, zero, suc, ◌+◌, ◌-◌, ◌*◌, ◌^◌, ◌<◌, ◌≤◌, Bool, true, false, ◌||◌, ◌==◌, eqb, leb, List, [], ◌∷◌, length, Ok, Err, pos, neg_ℤ, refl, subst, arith, length-drop, if◌then◌else◌}
use Rattle.std.proofs.lemmas.Bool.Decides.{nat_tests}
use Rattle.std.specs.Char.{is_ascii_digit, is_ascii_lowercase}
use Rattle.ca_term.specs.Tree.{Tree, Integer, Atom}
use Rattle.ca_text.specs.Bytes.{backslash, close_brace, close_bracket, comma, digit_zero, double_quote, minus_sign, open_angle, open_brace, open_bracket, single_quote, vertical_bar}
use Rattle.ca_text.specs.Text.{is_name_char}
use Rattle.ca_text.specs.Grammar.{Limits, points, skip}
use Rattle.ca_text.specs.declared.fault.Why.{Why}
use Rattle.ca_text.specs.declared.fault.Why.TheVariants.{Syntax, AtomTooLong, TooDeep, TooWide}
use Rattle.ca_text.specs.Inner.Reading.{◌>>=◌, Read, fault, syntax_fault, digits_after, number_at, negative_at, integer_at, name_length, name_at, closing_at, next_point_at, character_at, characters_at, string_at, quoted_at, most_point, begins_character, after_element_at, element_step, elements_at, Next, Head, Inner, Last, closed, inner_at, tail_at, next_at, cells_after, cell_step, cells_at, list_at, string_points_at, points_at, tuple_at, binary_at, atom_at, integer_term_at, other_at, bracketed, begins_term, too_deep, term_at}
use Rattle.ca_text.proofs.Tools.{either_way}
use Rattle.ca_text.proofs.Local.{IsLocal}
use Rattle.ca_text.proofs.LocalParts.{digits_local, number_local}
use Rattle.ca_text.proofs.Sound.{element_some}
use Rattle.ca_text.proofs.LocalTerms.{skip_shorter, after_element_local, term_local}
use Rattle.ca_text.proofs.Raised.{Grown, Past, Within, IsRaised, Beside, behind, ReadsBeside, grown_itself, grown_before, grown_most, grown_stays, grown_raised, within_more, within_past, ok_beside, fault_beside, past_beside, beside_more, if_beside, bind_within, bind_past, bind_beside, skip_beside, local_within}
use Rattle.ca_text.proofs.RaisedParts.{syntax_beside, expect_beside, integer_beside, characters_past, characters_beside, string_beside, name_beside, series_beside, binary_beside}

-- the bytes that are left behind a head and what follows it
abbrev rest_of : Next → List ℕ
rest_of (Head rest) = rest
rest_of (Inner rest) = rest
rest_of (Last t rest) = rest

-- ---- tuples

module _ (raises : Why → Bool) (plain : raises Syntax ≡ false) where
  -- a after_comma, where so many more elements may come
  abbrev after_comma : ℕ → ℕ → List ℕ → Read Bool
  after_comma n b bytes = if n == 0 then fault TooWide (b ∷ bytes) else Ok (true, skip bytes)

  comma_beside : (n m b : ℕ) (bytes : List ℕ) → Grown raises TooWide n m
      → Beside raises behind (length (b ∷ bytes)) (after_comma n b bytes) (after_comma m b bytes)
  comma_beside n m b bytes g =
      let short = skip_shorter bytes in
      either_way (raises TooWide)
      (λ h. let less = g.more h in let some : eqb m 0 ≡ false = grind (arith, nat_tests) in
      either_way (eqb n 0) (λ i. past_beside TooWide (b ∷ bytes) _ _ h (rw i refl) (rw some (omega arith))) (λ i. rw (i, some) (ok_beside (omega arith))))
      (λ h. subst (λ k. Beside raises behind (length (b ∷ bytes)) (after_comma n b bytes) (after_comma k b bytes)) (g.same h)
      (if_beside (eqb n 0) (λ i. fault_beside TooWide (b ∷ bytes) h (omega arith)) (λ i. ok_beside (omega arith))))

  after_element_beside : (n m : ℕ) → Grown raises TooWide n m → ReadsBeside raises (after_element_at n) (after_element_at m)
  unfolding after_element_at
  after_element_beside n m g [] = syntax_beside raises plain [] (omega arith)
  after_element_beside n m g (b ∷ bytes) =
      if_beside (eqb b comma) (λ h. comma_beside n m b bytes g) (λ h.
      if_beside (eqb b close_brace) (λ i. ok_beside (omega arith)) (λ i. syntax_beside raises plain (b ∷ bytes) (omega arith)))

  module _ (element wide : List ℕ → Read Tree) (each : ReadsBeside raises element wide) where
    element_step_beside : (n m : ℕ) → Grown raises TooWide n m → ReadsBeside raises (element_step element n) (element_step wide m)
    unfolding element_step
    element_step_beside n m g bytes =
        bind_beside _ _ (each bytes) (λ x.
        bind_beside _ _ (skip_beside (after_element_beside n m g) x.1) (λ y. ok_beside (omega arith)))

    element_step_within : (n : ℕ) (bytes : List ℕ) → Within behind (length bytes) (element_step wide n bytes)
    unfolding element_step
    element_step_within n bytes =
        bind_within behind behind (length bytes) (wide bytes) (λ x. after_element_at n (skip x.1) >>= λ y. Ok ((x.0 ∷ [], y.0), y.1)) (each bytes).within (λ x.
        bind_within behind behind (length x.1) (after_element_at n (skip x.1)) (λ y. Ok ((x.0 ∷ [], y.0), y.1))
        (within_more behind (after_element_at n (skip x.1)) (skip_shorter x.1)
        (local_within (after_element_at n) (after_element_local n) (skip x.1))) (λ y. omega arith))

    elements_beside : (most more : ℕ) → (raises TooWide ≡ true → 0 < most) → Grown raises TooWide most more
        → ReadsBeside raises (elements_at element most) (elements_at wide more)
    unfolding elements_at
    elements_beside most more some g [] = syntax_beside raises plain [] (omega arith)
    elements_beside most more some g (b ∷ bytes) =
        if_beside (eqb b close_brace) (λ h. ok_beside (omega arith))
        (λ h. series_beside raises plain TooWide (element_step element) (element_step wide) element_step_beside element_step_within
        (λ n ys x e i j. (element_some element n ys).is x e i) most more g some (b ∷ bytes))

    tuple_beside : (most more : ℕ) → (raises TooWide ≡ true → 0 < most) → Grown raises TooWide most more
        → ReadsBeside raises (tuple_at element most) (tuple_at wide more)
    tuple_beside most more some g bytes = bind_beside _ _ (elements_beside most more some g bytes) (λ x. ok_beside (omega arith))

  -- ---- lists

  closed_beside : {left : ℕ} {r s : Read Tree} → Beside raises behind left r s → Beside raises rest_of left (closed r) (closed s)
  closed_beside l = bind_beside _ _ l (λ x. bind_beside _ _ (skip_beside (expect_beside raises plain close_bracket) x.1) (λ rest. ok_beside (omega arith)))

  inner_beside : (bytes : List ℕ) → Beside raises rest_of (length bytes) (inner_at bytes) (inner_at bytes)
  inner_beside [] = ok_beside (omega arith)
  inner_beside (b ∷ bytes) = if_beside (eqb b close_bracket) (λ h. closed_beside (ok_beside (omega arith))) (λ h. ok_beside (omega arith))

  after_beside : (head : Tree) {p q : List ℕ → Read Tree} → ReadsBeside raises p q → (next : Next)
      → Beside raises behind (length (rest_of next)) (cells_after head p next) (cells_after head q next)
  after_beside head l (Head rest) = bind_beside _ _ (l rest) (λ x. ok_beside (omega arith))
  after_beside head l (Inner rest) =
      bind_beside _ _ (l rest) (λ x.
      bind_beside _ _ (skip_beside (expect_beside raises plain close_bracket) x.1) (λ after. ok_beside (omega arith)))
  after_beside head l (Last t rest) = ok_beside (omega arith)

  module _ (other others : List ℕ → Read Tree) (beside : ReadsBeside raises other others) where
    tail_beside : (bytes : List ℕ) → Beside raises rest_of (length bytes) (tail_at other bytes) (tail_at others bytes)
    unfolding tail_at
    tail_beside [] = closed_beside (beside [])
    tail_beside (b ∷ bytes) = if_beside (eqb b open_bracket) (λ h. beside_more (omega arith) (skip_beside inner_beside bytes))
        (λ h. closed_beside (beside (b ∷ bytes)))

    next_beside : (bytes : List ℕ) → Beside raises rest_of (length bytes) (next_at other bytes) (next_at others bytes)
    unfolding next_at
    next_beside [] = syntax_beside raises plain [] (omega arith)
    next_beside (b ∷ bytes) =
        if_beside (eqb b comma) (λ h. ok_beside (omega (arith, skip_shorter bytes))) (λ h.
        if_beside (eqb b close_bracket) (λ i. ok_beside (omega arith)) (λ i.
        if_beside (eqb b vertical_bar) (λ j. beside_more (omega arith) (skip_beside tail_beside bytes))
        (λ j. syntax_beside raises plain (b ∷ bytes) (omega arith))))

    module _ (element wide : List ℕ → Read Tree) (each : ReadsBeside raises element wide) where
      cell_beside : (bytes : List ℕ) → Beside raises (λ x. rest_of x.1) (length bytes) (cell_step element other bytes) (cell_step wide others bytes)
      unfolding cell_step
      cell_beside bytes = bind_beside _ _ (each bytes) (λ x. bind_beside _ _ (skip_beside next_beside x.1) (λ next. ok_beside (omega arith)))

      cells_beside : (n : ℕ) → ReadsBeside raises (cells_at element other n) (cells_at wide others n)
      unfolding cells_at
      cells_beside zero bytes = syntax_beside raises plain bytes (omega arith)
      cells_beside (suc n) bytes = bind_beside _ _ (cell_beside bytes) (λ x. after_beside x.0 (cells_beside n) x.1)

      list_beside : ReadsBeside raises (list_at element other) (list_at wide others)
      unfolding list_at
      list_beside [] = syntax_beside raises plain [] (omega arith)
      list_beside (b ∷ bytes) = if_beside (eqb b close_bracket) (λ h. ok_beside (omega arith)) (λ h. cells_beside (length (b ∷ bytes)) (b ∷ bytes))

      bracketed_beside : ReadsBeside raises (bracketed (list_at element other) other) (bracketed (list_at wide others) others)
      bracketed_beside [] = beside []
      bracketed_beside (b ∷ bytes) = if_beside (eqb b open_bracket) (λ h. beside_more (omega arith) (skip_beside list_beside bytes)) (λ h. beside (b ∷ bytes))

  -- ---- other terms

  -- a string of some code points, where there could be none
  more_points : raises TooDeep ≡ true → ReadsBeside raises (points_at zero) string_points_at
  unfolding points_at characters_at closing_at next_point_at character_at
  more_points grows [] = syntax_beside raises plain [] (omega arith)
  more_points grows (b ∷ bytes) =
      either_way (eqb b double_quote) (λ h. rw h (ok_beside (omega arith))) (λ h.
      either_way (begins_character double_quote most_point b)
      (λ i. past_beside TooDeep (b ∷ bytes) _ _ grows (rw (i, h) refl)
      (bind_past behind behind (length (b ∷ bytes)) (string_at most_point (b ∷ bytes)) (λ x. Ok (points x.0, x.1))
      (characters_past raises plain Syntax double_quote most_point (length bytes) b bytes h i) (λ x. omega arith)))
      (λ i. let slash : eqb b backslash ≡ false = grind (arith, nat_tests) in rw (i, slash, h) (syntax_beside raises plain (b ∷ bytes) (omega arith))))

  no_points : raises TooDeep ≡ false → ReadsBeside raises (points_at zero) (points_at zero)
  unfolding points_at
  no_points stays [] = syntax_beside raises plain [] (omega arith)
  no_points stays (b ∷ bytes) =
      if_beside (eqb b double_quote) (λ h. ok_beside (omega arith)) (λ h.
      if_beside (begins_character double_quote most_point b) (λ i. fault_beside TooDeep (b ∷ bytes) stays (omega arith))
      (λ i. syntax_beside raises plain (b ∷ bytes) (omega arith)))

  points_beside : (levels deeper : ℕ) → Grown raises TooDeep levels deeper → ReadsBeside raises (points_at levels) (points_at deeper)
  unfolding points_at
  points_beside zero zero g bytes = no_points (grown_stays raises TooDeep zero g) bytes
  points_beside zero (suc deeper) g bytes = more_points (grown_raised raises TooDeep deeper g) bytes
  points_beside (suc levels) zero g bytes = absurd (omega (arith, grown_most raises TooDeep (suc levels) zero g))
  points_beside (suc levels) (suc deeper) g bytes = bind_beside _ _ (string_beside raises plain most_point bytes) (λ x. ok_beside (omega arith))

  quoted_beside : (most more : ℕ) → Grown raises AtomTooLong most more → ReadsBeside raises (quoted_at most) (quoted_at more)
  quoted_beside most more g bytes = bind_beside _ _ (characters_beside raises plain AtomTooLong single_quote most_point most more g bytes)
      (λ x. ok_beside (omega arith))

  atom_beside : (most more : ℕ) → Grown raises AtomTooLong most more → ReadsBeside raises (atom_at most) (atom_at more)
  atom_beside most more g bytes = bind_beside _ _ (name_beside raises plain most more g bytes) (λ x. ok_beside (omega arith))

  integer_term_beside : ReadsBeside raises integer_term_at integer_term_at
  integer_term_beside bytes = bind_beside _ _ (integer_beside raises plain bytes) (λ x. ok_beside (omega arith))

  other_beside : (limits wider : Limits) (element wide : List ℕ → Read Tree) (levels deeper : ℕ) → (raises TooWide ≡ true → 0 < limits.elements)
      → Grown raises TooWide limits.elements wider.elements → Grown raises AtomTooLong limits.characters wider.characters → Grown raises TooDeep levels deeper
      → ReadsBeside raises element wide
      → ReadsBeside raises (other_at limits element levels) (other_at wider wide deeper)
  unfolding other_at
  other_beside limits wider element wide levels deeper some elements characters depth each [] = integer_term_beside []
  other_beside limits wider element wide levels deeper some elements characters depth each (b ∷ bytes) =
      if_beside (eqb b open_brace)
      (λ h. beside_more (omega arith) (skip_beside (tuple_beside element wide each limits.elements wider.elements some elements) bytes))
      (λ h. if_beside (eqb b double_quote) (λ i. beside_more (omega arith) (points_beside levels deeper depth bytes))
      (λ i. if_beside (eqb b single_quote) (λ j. beside_more (omega arith) (quoted_beside limits.characters wider.characters characters bytes))
      (λ j. if_beside (eqb b open_angle) (λ k. beside_more (omega arith) (binary_beside raises plain bytes))
      (λ k. if_beside (is_ascii_lowercase b) (λ l. atom_beside limits.characters wider.characters characters (b ∷ bytes))
      (λ l. integer_term_beside (b ∷ bytes))))))

-- ---- a term where there could be none

name_some : (b : ℕ) (bytes : List ℕ) → is_ascii_lowercase b ≡ true → 0 < name_length (b ∷ bytes)
unfolding name_length
name_some b bytes low = let h : is_name_char b ≡ true = grind (arith, nat_tests) in rw h (omega arith)

past_name : (most b : ℕ) (bytes : List ℕ) → 0 < most → is_ascii_lowercase b ≡ true → Past behind (length (b ∷ bytes)) (name_at most (b ∷ bytes))
unfolding name_at
past_name most b bytes some low =
    let long = name_some b bytes low in
    either_way (leb (name_length (b ∷ bytes)) most)
    (λ h. rw h (omega (arith, length-drop (name_length (b ∷ bytes)) (b ∷ bytes))))
    (λ h. rw h (omega (arith, length-drop most (b ∷ bytes))))

past_number : (most b : ℕ) (bytes : List ℕ) → 9 ≤ most → is_ascii_digit b ≡ true → Past behind (length (b ∷ bytes)) (number_at most (b ∷ bytes))
unfolding number_at digits_after
past_number most b bytes high digit =
    let worth = 0 * 10 + (b - digit_zero) in
    let fits : leb worth most ≡ true = grind (arith, nat_tests) in
    rw (digit, fits) (within_past behind (digits_after most worth bytes) (omega arith)
    (local_within (digits_after most worth) (λ xs. digits_local xs most worth) bytes))

past_integer : (b : ℕ) (bytes : List ℕ) → (eqb b minus_sign || is_ascii_digit b) ≡ true → Past behind (length (b ∷ bytes)) (integer_at (b ∷ bytes))
unfolding integer_at
past_integer b bytes begins =
    either_way (eqb b minus_sign)
    (λ h. let number = local_within (number_at (2 ^ 63)) (number_local (2 ^ 63)) bytes in
    rw h (within_past behind (negative_at bytes) (omega arith)
    (bind_within behind behind (length bytes) (number_at (2 ^ 63) bytes) (λ x. Ok (neg_ℤ (pos x.0), x.1)) number (λ x. omega arith))))
    (λ h. let digit : is_ascii_digit b ≡ true = rw h at begins in
    rw h (bind_past behind behind (length (b ∷ bytes)) (number_at (2 ^ 63 - 1) (b ∷ bytes)) (λ x. Ok (pos x.0, x.1))
    (past_number (2 ^ 63 - 1) b bytes (omega arith) digit) (λ x. omega arith)))

-- no limit is raised: so the lemmas above tell how far a reader looks
abbrev never : Why → Bool
never w = false

never_grown : (v : Why) (n : ℕ) → Grown never v n n
never_grown v n = grown_itself never v n refl

never_raised : {A : Type 0} (r : Read A) → IsRaised never behind r r
never_raised (Ok x) = refl
never_raised (Err f) = (λ h. refl, λ h. absurd cc)

never_beside : {A : Type 0} (p : List ℕ → Read A) → IsLocal p → ReadsBeside never p p
never_beside p local bytes = record { raised = never_raised (p bytes); within = local_within p local bytes }

module _ (limits : Limits) (levels : ℕ) where
  abbrev element : List ℕ → Read Tree
  element bytes = term_at limits levels bytes

  abbrev other : List ℕ → Read Tree
  other bytes = other_at limits element levels bytes

  each : ReadsBeside never element element
  each = never_beside element (term_local limits levels)

  each_other : ReadsBeside never other other
  each_other =
      other_beside never refl limits limits element element levels levels (λ h. absurd cc) (never_grown TooWide limits.elements)
      (never_grown AtomTooLong limits.characters)
      (never_grown TooDeep levels) each

  past_other : 0 < limits.characters → (b : ℕ) (bytes : List ℕ) → begins_term b ≡ true → eqb b open_bracket ≡ false
      → Past behind (length (b ∷ bytes)) (other (b ∷ bytes))
  unfolding other_at
  past_other some b bytes begins apart =
      either_way (eqb b open_brace)
      (λ h. let tuple = tuple_beside never refl element element each limits.elements limits.elements (λ i. absurd cc) (never_grown TooWide limits.elements) in
      rw h (within_past behind (tuple_at element limits.elements (skip bytes)) (omega arith) (skip_beside tuple bytes).within))
      (λ h. either_way (eqb b double_quote)
      (λ i. rw (h, i) (within_past behind (points_at levels bytes) (omega arith)
      (points_beside never refl levels levels (never_grown TooDeep levels) bytes).within))
      (λ i. either_way (eqb b single_quote)
      (λ j. rw (h, i, j) (within_past behind (quoted_at limits.characters bytes) (omega arith)
      (quoted_beside never refl limits.characters limits.characters (never_grown AtomTooLong limits.characters) bytes).within))
      (λ j. either_way (eqb b open_angle)
      (λ k. rw (h, i, j, k) (within_past behind (binary_at bytes) (omega arith) (binary_beside never refl bytes).within))
      (λ k. either_way (is_ascii_lowercase b)
      (λ l. rw (h, i, j, k, l) (bind_past behind behind (length (b ∷ bytes)) (name_at limits.characters (b ∷ bytes)) (λ x. Ok (Atom x.0, x.1))
      (past_name limits.characters b bytes some l) (λ x. omega arith)))
      (λ l. let number : (eqb b minus_sign || is_ascii_digit b) ≡ true = grind (arith, nat_tests) in
      rw (h, i, j, k, l) (bind_past behind behind (length (b ∷ bytes)) (integer_at (b ∷ bytes)) (λ x. Ok (Integer x.0, x.1)) (past_integer b bytes number)
      (λ x. omega arith)))))))

  -- a term that begins here is read, or the fault stands behind its first byte
  past_term : 0 < limits.characters → (b : ℕ) (bytes : List ℕ) → begins_term b ≡ true
      → Past behind (length (b ∷ bytes)) (term_at limits (suc levels) (b ∷ bytes))
  unfolding term_at
  past_term some b bytes begins =
      either_way (eqb b open_bracket)
      (λ h. let list = list_beside never refl other other each_other element element each in
      rw h (within_past behind (list_at element other (skip bytes)) (omega arith) (skip_beside list bytes).within))
      (λ h. rw h (past_other some b bytes begins h))

  no_term : (b : ℕ) (bytes : List ℕ) → begins_term b ≡ false → term_at limits (suc levels) (b ∷ bytes) ≡ syntax_fault (b ∷ bytes)
  unfolding term_at other_at integer_at number_at
  no_term b bytes begins =
      let list : eqb b open_bracket ≡ false = grind (arith, nat_tests) in
      let tuple : eqb b open_brace ≡ false = grind (arith, nat_tests) in
      let string : eqb b double_quote ≡ false = grind (arith, nat_tests) in
      let quoted : eqb b single_quote ≡ false = grind (arith, nat_tests) in
      let binary : eqb b open_angle ≡ false = grind (arith, nat_tests) in
      let name : is_ascii_lowercase b ≡ false = grind (arith, nat_tests) in
      let minus : eqb b minus_sign ≡ false = grind (arith, nat_tests) in
      let digit : is_ascii_digit b ≡ false = grind (arith, nat_tests) in
      rw (list, tuple, string, quoted, binary, name, minus, digit) refl

  no_bytes : term_at limits (suc levels) [] ≡ syntax_fault []
  unfolding term_at other_at integer_at
  no_bytes = refl

module _ (raises : Why → Bool) (plain : raises Syntax ≡ false) where
  -- some levels, where there was none
  deep_beside : (limits : Limits) (levels : ℕ) → raises TooDeep ≡ true → 0 < limits.characters → ReadsBeside raises too_deep (term_at limits (suc levels))
  deep_beside limits levels grows some [] = rw (no_bytes limits levels) (syntax_beside raises plain [] (omega arith))
  deep_beside limits levels grows some (b ∷ bytes) =
      either_way (begins_term b)
      (λ h. past_beside TooDeep (b ∷ bytes) _ _ grows (rw h refl) (past_term limits levels some b bytes h))
      (λ h. rw (h, no_term limits levels b bytes h) (syntax_beside raises plain (b ∷ bytes) (omega arith)))

  flat_beside : raises TooDeep ≡ false → ReadsBeside raises too_deep too_deep
  flat_beside stays [] = syntax_beside raises plain [] (omega arith)
  flat_beside stays (b ∷ bytes) =
      if_beside (begins_term b) (λ h. fault_beside TooDeep (b ∷ bytes) stays (omega arith)) (λ h. syntax_beside raises plain (b ∷ bytes) (omega arith))

  module _ (limits wider : Limits) (elements : 0 < limits.elements) (characters : 0 < limits.characters)
      (more_elements : Grown raises TooWide limits.elements wider.elements)
      (more_characters : Grown raises AtomTooLong limits.characters wider.characters) where
    term_beside : (levels deeper : ℕ) → Grown raises TooDeep levels deeper → ReadsBeside raises (term_at limits levels) (term_at wider deeper)
    unfolding term_at
    term_beside zero zero g bytes = flat_beside (grown_stays raises TooDeep zero g) bytes
    term_beside zero (suc deeper) g bytes =
        let some : 0 < wider.characters = omega (arith, characters, grown_most raises AtomTooLong limits.characters wider.characters more_characters) in
        deep_beside wider deeper (grown_raised raises TooDeep deeper g) some bytes
    term_beside (suc levels) zero g bytes = absurd (omega (arith, grown_most raises TooDeep (suc levels) zero g))
    term_beside (suc levels) (suc deeper) g bytes =
        let less = grown_before raises TooDeep levels deeper g in
        let each = term_beside levels deeper less in
        let element = term_at limits levels in
        let wide = term_at wider deeper in
        bracketed_beside raises plain (other_at limits element levels) (other_at wider wide deeper)
        (other_beside raises plain limits wider element wide levels deeper (λ h. elements) more_elements more_characters less each) element wide each bytes

-- A reader with larger limits reads the same, and gets past a fault of a kind whose limit is raised.
pub term_raised : (raises : Why → Bool) → raises Syntax ≡ false → (limits wider : Limits) (levels deeper : ℕ) → 0 < limits.elements → 0 < limits.characters
    → Grown raises TooWide limits.elements wider.elements → Grown raises AtomTooLong limits.characters wider.characters → Grown raises TooDeep levels deeper
    → (bytes : List ℕ) → IsRaised raises (λ x. x.1) (term_at limits levels bytes) (term_at wider deeper bytes)
term_raised raises plain limits wider levels deeper elements characters more_elements more_characters depth bytes =
    (term_beside raises plain limits wider elements characters more_elements more_characters levels deeper depth bytes).raised
