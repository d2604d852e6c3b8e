-- A text of a term that stands at the front is read, whatever follows that doesn't belong to it.
use Rattle.std.proofs.Common.{◌≡◌, ℕ, zero, suc, ◌<◌, ◌≤◌, Bool, true, false, eqb, List, [], ◌∷◌, ◌++◌, length, Some, Ok, ℤ, pos, neg_ℤ, refl, sym, ap, ◌∙◌, append_assoc, arith, ◌⊎◌, inl, inr, ⊎_elim, length-append}
use Rattle.ca_text.specs.Bytes.{close_angle, close_brace, close_bracket, comma, double_quote, minus_sign, open_angle, open_brace, open_bracket, single_quote, vertical_bar}
use Rattle.ca_text.proofs.Characters.{scalar_point}
use Rattle.std.proofs.lemmas.Bool.Decides.{nat_tests}
use Rattle.std.specs.List.{list_all}
use Rattle.std.specs.Char.{is_ascii, is_ascii_digit, is_ascii_lowercase, digit_value}
use Rattle.std.specs.Str.{encode_utf8_all}
use Rattle.std.specs.Str.Parse.{IsNumeral, digits_value}
use Rattle.ca_term.specs.Tree.{Tree, Row, Integer, Atom, Tuple, Nil, Cons, Binary, Ends, More, row_of, size, elements}
use Rattle.ca_text.specs.Text.{is_name_char}
use Rattle.ca_text.specs.Grammar.{ABinary, AList, ANil, AString, ATuple, AnAtom, AnInteger, AreBlanks, AreCells, AreCharacters, AreElements, AreSegments, Closed, Escaped, FromZero, Hexadecimal, IsAtom, IsCharacter, IsInteger, IsSegment, IsTextOf, IsWhole, Itself, LastCell, LastElement, LastSegment, LastTail, Limits, MoreCells, MoreElements, MoreSegments, Negative, NoBytes, NoElements, NoString, OneByte, OneMore, Plain, Quoted, Shown, escape_of, is_blank, most_byte, points, skip, takes_in}
use Rattle.ca_text.specs.Inner.Reading.{Read, is_point, most_point, most_shown, quoted_at, one_byte_at, segment_at, after_segment_at, segment_step, series_at, series_rest, bytes_at, after_element_at, element_step, elements_at, Next, Head, Inner, Last, closed, inner_at, tail_at, next_at, cells_after, cell_step, cells_at, list_at, points_at, tuple_at, binary_at, atom_at, integer_term_at, other_at, bracketed, term_at}
use Rattle.ca_text.proofs.Tools.{both}
use Rattle.ca_text.proofs.Again.{skip_again, expect_again, number_again, integer_again, name_again}
use Rattle.ca_text.proofs.Numbers.{EndsDigits}
use Rattle.ca_text.proofs.CharactersAgain.{characters_again, characters_few}

-- code points of characters are scalar values
escape_scalar : (letter c : ℕ) → escape_of letter ≡ Some c → is_point most_point c ≡ true
escape_scalar letter c e = grind (arith, nat_tests)

character_point : (close : ℕ) (text : List ℕ) (c : ℕ) → IsCharacter close text c → is_point most_point c ≡ true
character_point _ _ _ (Itself close c is h i j) = scalar_point c is
character_point _ _ _ (Escaped close letter c e) = escape_scalar letter c e
character_point _ _ _ (Hexadecimal close ds n few is) = scalar_point (digits_value 16 ds) is

characters_points : (close : ℕ) (text cs : List ℕ) → AreCharacters close text cs → list_all (is_point most_point) cs ≡ true
characters_points _ _ _ (Closed close) = refl
characters_points _ _ _ (OneMore close c first others cs is are) = rw (character_point close first c is, characters_points close others cs are) refl

ascii_points : (cs : List ℕ) → list_all is_ascii cs ≡ true → list_all (is_point most_shown) cs ≡ true
ascii_points [] h = refl
ascii_points (c ∷ cs) h =
    let t = both (is_ascii c) (list_all is_ascii cs) h in
    let low = t.0 in
    let one : is_point most_shown c ≡ true = grind (arith, nat_tests) in
    rw (one, ascii_points cs t.1) refl

-- ---- binaries

one_byte_again : (ds rest : List ℕ) → IsNumeral 10 ds → digits_value 10 ds ≤ most_byte → EndsDigits rest
    → one_byte_at (ds ++ rest) ≡ Ok (digits_value 10 ds ∷ [], rest)
one_byte_again ds rest n bound ends = rw (number_again most_byte ds rest n bound ends) refl

digit_quote : (d : ℕ) → digit_value d < 10 → eqb d double_quote ≡ false
digit_quote d h = grind (arith, nat_tests)

segment_again : (text bs rest : List ℕ) → IsSegment text bs → EndsDigits rest → segment_at (text ++ rest) ≡ Ok (bs, rest)
unfolding segment_at
segment_again _ _ rest (OneByte [] n bound) ends = absurd (omega (arith, n.0))
segment_again _ _ rest (OneByte (d ∷ ds) n bound) ends = rw (digit_quote d n.1.0) (one_byte_again (d ∷ ds) rest n bound ends)
segment_again _ _ rest (Shown text cs are all) ends =
    characters_again _ double_quote most_shown (length (text ++ rest)) text cs rest (omega arith) (λ e. absurd (omega (arith, e))) are (ascii_points cs all)
    (omega (arith, length-append text rest, characters_few double_quote text cs (λ e. absurd (omega (arith, e))) (omega arith) are))

-- how a segment begins: no blank, and not the closing brackets
pub record BeginsSegment (text : List ℕ) : Type 0 where
  pub first : ℕ
  pub others : List ℕ
  pub is : text ≡ first ∷ others
  pub solid : is_blank first ≡ false
  pub going : eqb first close_angle ≡ false

digit_solid : (d : ℕ) → digit_value d < 10 → (is_blank d ≡ false) × (eqb d close_angle ≡ false)
digit_solid d h = (grind (arith, nat_tests), grind (arith, nat_tests))

-- A segment begins with no blank, and not with the closing brackets.
pub segment_begins : (text bs : List ℕ) → IsSegment text bs → BeginsSegment text
segment_begins _ _ (OneByte [] n bound) = absurd (omega (arith, n.0))
segment_begins _ _ (OneByte (d ∷ ds) n bound) = let s = digit_solid d n.1.0 in record { first = d; others = ds; is = refl; solid = s.0; going = s.1 }
segment_begins _ _ (Shown text cs are all) = record { first = double_quote; others = text; is = refl; solid = refl; going = refl }

segments_begin : (text bs : List ℕ) → AreSegments text bs → BeginsSegment text
segments_begin _ _ (LastSegment text blanks bytes is are) =
    let b = segment_begins text bytes is in
    record {
      first = b.first;
      others = b.others ++ (blanks ++ close_angle ∷ close_angle ∷ []);
      is = ap (λ x. x ++ (blanks ++ close_angle ∷ close_angle ∷ [])) b.is;
      solid = b.solid;
      going = b.going;
    }
segments_begin _ _ (MoreSegments text before after rest bytes others is one two are) =
    let b = segment_begins text bytes is in
    record {
      first = b.first;
      others = b.others ++ (before ++ comma ∷ (after ++ rest));
      is = ap (λ x. x ++ (before ++ comma ∷ (after ++ rest))) b.is;
      solid = b.solid;
      going = b.going;
    }

-- blanks and what isn't a digit end a number
blanks_end : (blanks : List ℕ) (c : ℕ) (rest : List ℕ) → AreBlanks blanks → is_ascii_digit c ≡ false → EndsDigits (blanks ++ c ∷ rest)
blanks_end [] c rest are h = h
blanks_end (b ∷ blanks) c rest are h = let t = (both (is_blank b) (list_all is_blank blanks) are).0 in grind (arith, nat_tests)

-- blanks and then what begins so
skip_to : (blanks text rest : List ℕ) (first : ℕ) (others : List ℕ) → AreBlanks blanks → text ≡ first ∷ others → is_blank first ≡ false
    → skip (blanks ++ (text ++ rest)) ≡ text ++ rest
skip_to blanks text rest first others are is solid =
    ap (λ x. skip (blanks ++ (x ++ rest))) is ∙ skip_again blanks first (others ++ rest) are solid ∙ ap (λ x. x ++ rest) (sym is)

ended_parts : (text blanks closing rest : List ℕ) → (text ++ (blanks ++ closing)) ++ rest ≡ text ++ (blanks ++ (closing ++ rest))
ended_parts text blanks closing rest = simp append_assoc

further_parts : (c : ℕ) (text before after others rest : List ℕ)
    → (text ++ (before ++ c ∷ (after ++ others))) ++ rest ≡ text ++ (before ++ c ∷ (after ++ (others ++ rest)))
further_parts c text before after others rest = simp append_assoc

segments_again : (n : ℕ) (text bs rest : List ℕ) → AreSegments text bs → length text ≤ n → series_at segment_step n (text ++ rest) ≡ Ok (bs, rest)
unfolding series_at segment_step after_segment_at
segments_again zero text bs rest are few = let b = segments_begin text bs are in absurd (omega (arith, few, ap (λ (x : List ℕ). length x) b.is))
segments_again (suc n) _ _ rest (LastSegment text blanks bytes is are) few =
    let read = segment_again text bytes (blanks ++ close_angle ∷ close_angle ∷ rest) is (blanks_end blanks close_angle (close_angle ∷ rest) are refl) in
    rw (
      ended_parts text blanks (close_angle ∷ close_angle ∷ []) rest,
      read,
      skip_again blanks close_angle (close_angle ∷ rest) are refl,
      expect_again close_angle rest,
    ) refl
segments_again (suc n) _ _ rest (MoreSegments text before after others bytes more is one two are) few =
    let tail = comma ∷ (after ++ (others ++ rest)) in
    let read = segment_again text bytes (before ++ tail) is (blanks_end before comma (after ++ (others ++ rest)) one refl) in
    let b = segment_begins text bytes is in
    let short : length others ≤ n =
    omega (
      arith,
      few,
      ap (λ (x : List ℕ). length x) b.is,
      length-append text (before ++ comma ∷ (after ++ others)),
      length-append before (comma ∷ (after ++ others)),
      length-append after others,
    ) in
    let s = segments_begin others more are in
    rw (
      further_parts comma text before after others rest,
      read,
      skip_again before comma (after ++ (others ++ rest)) one refl,
      skip_to after others rest s.first s.others two s.is s.solid,
      segments_again n others more rest are short,
    ) refl

-- ---- terms

-- how a term begins: no blank, and no closing bracket
pub record Begins (text : List ℕ) : Type 0 where
  pub first : ℕ
  pub others : List ℕ
  pub is : text ≡ first ∷ others
  pub solid : is_blank first ≡ false
  pub no_brace : eqb first close_brace ≡ false
  pub no_bracket : eqb first close_bracket ≡ false

abbrev others_of : Limits → ℕ → List ℕ → Read Tree
others_of limits levels = other_at limits (term_at limits levels) levels

-- a term outside brackets is read
pub record OtherShape (limits : Limits) (levels : ℕ) (text : List ℕ) (t : Tree) : Type 0 where
  pub begins : Begins text
  pub apart : eqb begins.first open_bracket ≡ false
  pub reads : (rest : List ℕ) → IsWhole text rest → others_of limits levels (text ++ rest) ≡ Ok (t, rest)

-- an empty list
pub record EmptyShape (text : List ℕ) (t : Tree) : Type 0 where
  pub blanks : List ℕ
  pub are : AreBlanks blanks
  pub is : text ≡ open_bracket ∷ blanks ++ close_bracket ∷ []
  pub nil : t ≡ Nil

-- a list whose cells are read
pub record CellsShape (limits : Limits) (levels : ℕ) (text : List ℕ) (t : Tree) : Type 0 where
  pub blanks : List ℕ
  pub are : AreBlanks blanks
  pub cells : List ℕ
  pub is : text ≡ open_bracket ∷ blanks ++ cells
  pub begins : Begins cells
  pub reads : (k : ℕ) → length cells ≤ k → (rest : List ℕ) → cells_at (term_at limits levels) (others_of limits levels) k (cells ++ rest) ≡ Ok (t, rest)

abbrev pub Shape : Limits → ℕ → List ℕ → Tree → Type 0
Shape limits zero text t = ⊥
Shape limits (suc levels) text t = OtherShape limits levels text t ⊎ (EmptyShape text t ⊎ CellsShape limits levels text t)

bracket_begins : (text others : List ℕ) → text ≡ open_bracket ∷ others → Begins text
bracket_begins text others is = record { first = open_bracket; others = others; is = is; solid = refl; no_brace = refl; no_bracket = refl }

shape_begins : (limits : Limits) (levels : ℕ) (text : List ℕ) (t : Tree) → Shape limits levels text t → Begins text
shape_begins limits zero text t s = absurd s
shape_begins limits (suc levels) text t s = ⊎_elim (λ o. o.begins) (λ l. ⊎_elim (λ e. bracket_begins text _ e.is) (λ c. bracket_begins text _ c.is) l) s

-- a list's text behind its bracket, read
list_empty : (element other : List ℕ → Read Tree) (blanks rest : List ℕ) → AreBlanks blanks
    → bracketed (list_at element other) other ((open_bracket ∷ blanks ++ close_bracket ∷ []) ++ rest) ≡ Ok (Nil, rest)
unfolding list_at
list_empty element other blanks rest are = rw (append_assoc blanks (close_bracket ∷ []) rest, skip_again blanks close_bracket rest are refl) refl

list_from : (element other : List ℕ → Read Tree) (b : ℕ) (bytes : List ℕ) (r : Read Tree) → eqb b close_bracket ≡ false
    → cells_at element other (length (b ∷ bytes)) (b ∷ bytes) ≡ r → list_at element other (b ∷ bytes) ≡ r
unfolding list_at
list_from element other b bytes r going e = rw going e

shape_reads : (limits : Limits) (levels : ℕ) (text : List ℕ) (t : Tree) (rest : List ℕ) → Shape limits levels text t → IsWhole text rest
    → term_at limits levels (text ++ rest) ≡ Ok (t, rest)
unfolding term_at
shape_reads limits zero text t rest s whole = absurd s
shape_reads limits (suc levels) text t rest s whole =
    let list = list_at (term_at limits levels) (others_of limits levels) in
    let other = others_of limits levels in
    ⊎_elim
    (λ o. let step : bracketed list other (o.begins.first ∷ (o.begins.others ++ rest)) ≡ other (o.begins.first ∷ (o.begins.others ++ rest)) = rw o.apart refl in
    ap (λ x. bracketed list other (x ++ rest)) o.begins.is ∙ step ∙ ap (λ x. other (x ++ rest)) (sym o.begins.is) ∙ o.reads rest whole)
    (λ l. ⊎_elim
    (λ e. ap (λ x. bracketed list other (x ++ rest)) e.is ∙ list_empty (term_at limits levels) other e.blanks rest e.are ∙ ap (λ x. Ok (x, rest)) (sym e.nil))
    (λ c. let begins = c.begins in
    let front : skip ((c.blanks ++ c.cells) ++ rest) ≡ begins.first ∷ (begins.others ++ rest) =
    ap skip (append_assoc c.blanks c.cells rest) ∙ skip_to c.blanks c.cells rest begins.first begins.others c.are begins.is begins.solid
    ∙ ap (λ x. x ++ rest) begins.is in
    let many : length c.cells ≤ length (begins.first ∷ (begins.others ++ rest)) =
    omega (arith, ap (λ (x : List ℕ). length x) begins.is, length-append begins.others rest) in
    let read : cells_at (term_at limits levels) other (length (begins.first ∷ (begins.others ++ rest))) (begins.first ∷ (begins.others ++ rest)) ≡ Ok (t, rest)
    = ap (λ x. cells_at (term_at limits levels) other (length (begins.first ∷ (begins.others ++ rest))) (x ++ rest)) (sym begins.is) ∙ c.reads _ many rest in
    ap (λ x. bracketed list other (x ++ rest)) c.is ∙ ap list front
    ∙ list_from (term_at limits levels) other begins.first (begins.others ++ rest) (Ok (t, rest)) begins.no_bracket read)
    l)
    s

-- what is no character of a name belongs to no text before it
outside : (text : List ℕ) (b : ℕ) → is_name_char b ≡ false → takes_in text b ≡ false
outside [] b h = refl
outside (c ∷ text) b h = grind (arith, nat_tests)

blank_outside : (b : ℕ) → is_blank b ≡ true → is_name_char b ≡ false
blank_outside b h = grind (arith, nat_tests)

whole_before : (text blanks : List ℕ) (c : ℕ) (rest : List ℕ) → AreBlanks blanks → is_name_char c ≡ false → IsWhole text (blanks ++ c ∷ rest)
whole_before text [] c rest are h = outside text c h
whole_before text (b ∷ blanks) c rest are h = outside text b (blank_outside b (both (is_blank b) (list_all is_blank blanks) are).0)

-- what follows the tail after a bar is read
pub record TailReads (limits : Limits) (levels : ℕ) (k : ℕ) (bytes : List ℕ) (t : Tree) (rest : List ℕ) : Type 0 where
  pub next : Next
  pub found : tail_at (others_of limits levels) bytes ≡ Ok next
  pub reads : (head : Tree) → cells_after head (cells_at (term_at limits levels) (others_of limits levels) k) next ≡ Ok (Cons head t, rest)

closed_reads : (t : Tree) (blanks rest : List ℕ) → AreBlanks blanks → closed (Ok (t, blanks ++ close_bracket ∷ rest)) ≡ Ok (Last t rest)
closed_reads t blanks rest are = rw (skip_again blanks close_bracket rest are refl, expect_again close_bracket rest) refl

other_tail : (limits : Limits) (levels k : ℕ) (text : List ℕ) (t : Tree) (blanks rest : List ℕ) → AreBlanks blanks → OtherShape limits levels text t
    → TailReads limits levels k (text ++ (blanks ++ close_bracket ∷ rest)) t rest
unfolding tail_at
other_tail limits levels k text t blanks rest are o =
    let other = others_of limits levels in
    let behind = blanks ++ close_bracket ∷ rest in
    let read = o.reads behind (whole_before text blanks close_bracket rest are refl) in
    let step : tail_at other (o.begins.first ∷ (o.begins.others ++ behind)) ≡ closed (other (o.begins.first ∷ (o.begins.others ++ behind))) = rw o.apart refl in
    record {
      next = Last t rest;
      found = ap (λ x. tail_at other (x ++ behind)) o.begins.is ∙ step ∙ ap (λ x. closed (other (x ++ behind))) (sym o.begins.is) ∙ ap closed read
          ∙ closed_reads t blanks rest are;
      reads = λ head. refl;
    }

empty_tail : (limits : Limits) (levels k : ℕ) (text : List ℕ) (t : Tree) (blanks rest : List ℕ) → AreBlanks blanks → EmptyShape text t
    → TailReads limits levels k (text ++ (blanks ++ close_bracket ∷ rest)) t rest
unfolding tail_at
empty_tail limits levels k text t blanks rest are e =
    let other = others_of limits levels in
    let behind = blanks ++ close_bracket ∷ rest in
    let front : skip ((e.blanks ++ close_bracket ∷ []) ++ behind) ≡ close_bracket ∷ behind =
    ap skip (append_assoc e.blanks (close_bracket ∷ []) behind) ∙ skip_again e.blanks close_bracket behind e.are refl in
    let step : tail_at other ((open_bracket ∷ e.blanks ++ close_bracket ∷ []) ++ behind) ≡ Ok (Last Nil rest) = ap inner_at front
    ∙ closed_reads Nil blanks rest are in
    record { next = Last Nil rest; found = ap (λ x. tail_at other (x ++ behind)) e.is ∙ step; reads = λ head. ap (λ x. Ok (Cons head x, rest)) (sym e.nil) }

inner_from : (b : ℕ) (bytes : List ℕ) → eqb b close_bracket ≡ false → inner_at (b ∷ bytes) ≡ Ok (Inner (b ∷ bytes))
inner_from b bytes h = rw h refl

cells_tail : (limits : Limits) (levels k : ℕ) (text : List ℕ) (t : Tree) (blanks rest : List ℕ) → AreBlanks blanks → length text ≤ k
    → CellsShape limits levels text t → TailReads limits levels k (text ++ (blanks ++ close_bracket ∷ rest)) t rest
unfolding tail_at
cells_tail limits levels k text t blanks rest are few c =
    let other = others_of limits levels in
    let behind = blanks ++ close_bracket ∷ rest in
    let begins = c.begins in
    let front : skip ((c.blanks ++ c.cells) ++ behind) ≡ begins.first ∷ (begins.others ++ behind) =
    ap skip (append_assoc c.blanks c.cells behind) ∙ skip_to c.blanks c.cells behind begins.first begins.others c.are begins.is begins.solid
    ∙ ap (λ x. x ++ behind) begins.is in
    let step : tail_at other ((open_bracket ∷ c.blanks ++ c.cells) ++ behind) ≡ Ok (Inner (begins.first ∷ (begins.others ++ behind))) =
    ap inner_at front ∙ inner_from begins.first (begins.others ++ behind) begins.no_bracket in
    let short : length c.cells ≤ k = omega (arith, few, ap (λ (x : List ℕ). length x) c.is, length-append c.blanks c.cells) in
    let read : cells_at (term_at limits levels) other k (begins.first ∷ (begins.others ++ behind)) ≡ Ok (t, behind) =
    ap (λ x. cells_at (term_at limits levels) other k (x ++ behind)) (sym begins.is) ∙ c.reads k short behind in
    record {
      next = Inner (begins.first ∷ (begins.others ++ behind));
      found = ap (λ x. tail_at other (x ++ behind)) c.is ∙ step;
      reads = λ head. rw (read, skip_again blanks close_bracket rest are refl, expect_again close_bracket rest) refl;
    }

tail_reads : (limits : Limits) (levels k : ℕ) (text : List ℕ) (t : Tree) (blanks rest : List ℕ) → AreBlanks blanks → length text ≤ k
    → Shape limits (suc levels) text t → TailReads limits levels k (text ++ (blanks ++ close_bracket ∷ rest)) t rest
tail_reads limits levels k text t blanks rest are few s =
    ⊎_elim (other_tail limits levels k text t blanks rest are)
    (λ l. ⊎_elim (empty_tail limits levels k text t blanks rest are) (cells_tail limits levels k text t blanks rest are few) l) s

digit_apart : (d : ℕ) → digit_value d < 10 → (is_blank d ≡ false) × (eqb d close_brace ≡ false) × (eqb d close_bracket ≡ false) × (eqb d open_bracket ≡ false)
digit_apart d h = (grind (arith, nat_tests), grind (arith, nat_tests), grind (arith, nat_tests), grind (arith, nat_tests))

-- a digit begins an integer and no other term
digit_other : (limits : Limits) (element : List ℕ → Read Tree) (levels d : ℕ) (bytes : List ℕ) → digit_value d < 10
    → other_at limits element levels (d ∷ bytes) ≡ integer_term_at (d ∷ bytes)
unfolding other_at
digit_other limits element levels d bytes h =
    let a : eqb d open_brace ≡ false = grind (arith, nat_tests) in
    let b : eqb d double_quote ≡ false = grind (arith, nat_tests) in
    let c : eqb d single_quote ≡ false = grind (arith, nat_tests) in
    let e : eqb d open_angle ≡ false = grind (arith, nat_tests) in
    let f : is_ascii_lowercase d ≡ false = grind (arith, nat_tests) in
    rw (a, b, c, e, f) refl

integer_term_again : (text : List ℕ) (n : ℤ) (rest : List ℕ) → IsInteger text n → IsWhole text rest → integer_term_at (text ++ rest) ≡ Ok (Integer n, rest)
integer_term_again text n rest is whole = rw (integer_again text n rest is whole) refl

minus_other : (limits : Limits) (element : List ℕ → Read Tree) (levels : ℕ) (bytes : List ℕ)
    → other_at limits element levels (minus_sign ∷ bytes) ≡ integer_term_at (minus_sign ∷ bytes)
unfolding other_at
minus_other limits element levels bytes = refl

integer_shape : (limits : Limits) (levels : ℕ) (text : List ℕ) (n : ℤ) → IsInteger text n → OtherShape limits levels text (Integer n)
integer_shape limits levels _ _ (FromZero [] n bound) = absurd (omega (arith, n.0))
integer_shape limits levels _ _ (FromZero (d ∷ ds) n bound) =
    let a = digit_apart d n.1.0 in
    record {
      begins = record { first = d; others = ds; is = refl; solid = a.0; no_brace = a.1; no_bracket = a.2 };
      apart = a.3;
      reads = λ rest whole. digit_other limits (term_at limits levels) levels d (ds ++ rest) n.1.0
          ∙ integer_term_again (d ∷ ds) (pos (digits_value 10 (d ∷ ds))) rest (FromZero (d ∷ ds) n bound) whole;
    }
integer_shape limits levels _ _ (Negative ds n bound) =
    record {
      begins = record { first = minus_sign; others = ds; is = refl; solid = refl; no_brace = refl; no_bracket = refl };
      apart = refl;
      reads = λ rest whole. minus_other limits (term_at limits levels) levels (ds ++ rest)
          ∙ integer_term_again (minus_sign ∷ ds) (neg_ℤ (pos (digits_value 10 ds))) rest (Negative ds n bound) whole;
    }

letter_apart : (c : ℕ) → is_ascii_lowercase c ≡ true → (is_blank c ≡ false) × (eqb c close_brace ≡ false) × (eqb c close_bracket ≡ false) ×
    (eqb c open_bracket ≡ false)
letter_apart c h = (grind (arith, nat_tests), grind (arith, nat_tests), grind (arith, nat_tests), grind (arith, nat_tests))

letter_other : (limits : Limits) (element : List ℕ → Read Tree) (levels c : ℕ) (bytes : List ℕ) → is_ascii_lowercase c ≡ true
    → other_at limits element levels (c ∷ bytes) ≡ atom_at limits.characters (c ∷ bytes)
unfolding other_at
letter_other limits element levels d bytes h =
    let a : eqb d open_brace ≡ false = grind (arith, nat_tests) in
    let b : eqb d double_quote ≡ false = grind (arith, nat_tests) in
    let c : eqb d single_quote ≡ false = grind (arith, nat_tests) in
    let e : eqb d open_angle ≡ false = grind (arith, nat_tests) in
    rw (a, b, c, e, h) refl

quoted_other : (limits : Limits) (element : List ℕ → Read Tree) (levels : ℕ) (bytes : List ℕ)
    → other_at limits element levels (single_quote ∷ bytes) ≡ quoted_at limits.characters bytes
unfolding other_at
quoted_other limits element levels bytes = refl

quoted_again : (most : ℕ) (text cs rest : List ℕ) → AreCharacters single_quote text cs → length cs ≤ most
    → quoted_at most (text ++ rest) ≡ Ok (Atom (encode_utf8_all cs), rest)
quoted_again most text cs rest are few =
    rw (characters_again _ single_quote most_point most text cs rest (omega arith) (λ e. absurd (omega (arith, e))) are
    (characters_points single_quote text cs are) few) refl

atom_shape : (limits : Limits) (levels : ℕ) (text name : List ℕ) → IsAtom limits text name → OtherShape limits levels text (Atom name)
atom_shape _ levels _ _ (Plain limits [] form few) = absurd cc
atom_shape _ levels _ _ (Plain limits (c ∷ cs) form few) =
    let letter = (both (is_ascii_lowercase c) (list_all is_name_char cs) form).0 in
    let a = letter_apart c letter in
    record {
      begins = record { first = c; others = cs; is = refl; solid = a.0; no_brace = a.1; no_bracket = a.2 };
      apart = a.3;
      reads = λ rest whole. letter_other limits (term_at limits levels) levels c (cs ++ rest) letter
          ∙ rw (name_again limits.characters c cs rest form few whole) refl;
    }
atom_shape _ levels _ _ (Quoted limits text cs are few) =
    record {
      begins = record { first = single_quote; others = text; is = refl; solid = refl; no_brace = refl; no_bracket = refl };
      apart = refl;
      reads = λ rest whole. quoted_other limits (term_at limits levels) levels (text ++ rest) ∙ quoted_again limits.characters text cs rest are few;
    }

tuple_other : (limits : Limits) (element : List ℕ → Read Tree) (levels : ℕ) (bytes : List ℕ)
    → other_at limits element levels (open_brace ∷ bytes) ≡ tuple_at element limits.elements (skip bytes)
unfolding other_at
tuple_other limits element levels bytes = refl

string_other : (limits : Limits) (element : List ℕ → Read Tree) (levels : ℕ) (bytes : List ℕ)
    → other_at limits element levels (double_quote ∷ bytes) ≡ points_at levels bytes
unfolding other_at
string_other limits element levels bytes = refl

binary_other : (limits : Limits) (element : List ℕ → Read Tree) (levels : ℕ) (bytes : List ℕ)
    → other_at limits element levels (open_angle ∷ bytes) ≡ binary_at bytes
unfolding other_at
binary_other limits element levels bytes = refl

empty_tuple : (element : List ℕ → Read Tree) (most : ℕ) (blanks rest : List ℕ) → AreBlanks blanks
    → tuple_at element most (skip ((blanks ++ close_brace ∷ []) ++ rest)) ≡ Ok (Tuple Ends, rest)
unfolding elements_at
empty_tuple element most blanks rest are = rw (append_assoc blanks (close_brace ∷ []) rest, skip_again blanks close_brace rest are refl) refl

row_back : (row : Row) → row_of (elements row) ≡ row
row_back Ends = refl
row_back (More t row) = ap (λ x. More t x) (row_back row)

elements_from : (element : List ℕ → Read Tree) (most b : ℕ) (bytes : List ℕ) → eqb b close_brace ≡ false
    → elements_at element most (b ∷ bytes) ≡ series_at (element_step element) most (b ∷ bytes)
unfolding elements_at
elements_from element most b bytes h = rw h refl

full_tuple : (element : List ℕ → Read Tree) (most : ℕ) (blanks inner rest : List ℕ) (row : Row) → AreBlanks blanks → Begins inner
    → series_at (element_step element) most (inner ++ rest) ≡ Ok (elements row, rest)
    → tuple_at element most (skip ((blanks ++ inner) ++ rest)) ≡ Ok (Tuple row, rest)
full_tuple element most blanks inner rest row are b read =
    let front : skip ((blanks ++ inner) ++ rest) ≡ inner ++ rest =
    ap skip (append_assoc blanks inner rest) ∙ skip_to blanks inner rest b.first b.others are b.is b.solid in
    let step : elements_at element most (inner ++ rest) ≡ Ok (elements row, rest) =
    ap (λ x. elements_at element most (x ++ rest)) b.is ∙ elements_from element most b.first (b.others ++ rest) b.no_brace
    ∙ ap (λ x. series_at (element_step element) most (x ++ rest)) (sym b.is) ∙ read in
    rw (front, step, row_back row) refl

no_string : (levels : ℕ) (rest : List ℕ) → points_at levels (double_quote ∷ rest) ≡ Ok (Nil, rest)
unfolding points_at
no_string zero rest = refl
no_string (suc levels) rest =
    rw (characters_again _ double_quote most_point (length (double_quote ∷ rest)) (double_quote ∷ []) [] rest (omega arith) (λ e. absurd (omega (arith, e)))
    (Closed double_quote) refl (omega arith)) refl

some_string : (levels : ℕ) (text cs rest : List ℕ) → AreCharacters double_quote text cs → points_at (suc levels) (text ++ rest) ≡ Ok (points cs, rest)
unfolding points_at
some_string levels text cs rest are =
    rw (characters_again _ double_quote most_point (length (text ++ rest)) text cs rest (omega arith) (λ e. absurd (omega (arith, e))) are
    (characters_points double_quote text cs are)
    (omega (arith, length-append text rest, characters_few double_quote text cs (λ e. absurd (omega (arith, e))) (omega arith) are))) refl

no_bytes : (blanks rest : List ℕ) → AreBlanks blanks → binary_at (open_angle ∷ ((blanks ++ close_angle ∷ close_angle ∷ []) ++ rest)) ≡ Ok (Binary [], rest)
unfolding bytes_at
no_bytes blanks rest are =
    rw (
      expect_again open_angle ((blanks ++ close_angle ∷ close_angle ∷ []) ++ rest),
      append_assoc blanks (close_angle ∷ close_angle ∷ []) rest,
      skip_again blanks close_angle (close_angle ∷ rest) are refl,
      expect_again close_angle rest,
    ) refl

bytes_from : (b : ℕ) (bytes : List ℕ) → eqb b close_angle ≡ false → bytes_at (b ∷ bytes) ≡ series_at segment_step (length (b ∷ bytes)) (b ∷ bytes)
unfolding bytes_at
bytes_from b bytes h = rw h refl

some_bytes : (blanks inner bs rest : List ℕ) → AreBlanks blanks → AreSegments inner bs
    → binary_at (open_angle ∷ ((blanks ++ inner) ++ rest)) ≡ Ok (Binary bs, rest)
some_bytes blanks inner bs rest are is =
    let b = segments_begin inner bs is in
    let front : skip ((blanks ++ inner) ++ rest) ≡ b.first ∷ (b.others ++ rest) =
    ap skip (append_assoc blanks inner rest) ∙ skip_to blanks inner rest b.first b.others are b.is b.solid ∙ ap (λ x. x ++ rest) b.is in
    let many : length inner ≤ length (b.first ∷ (b.others ++ rest)) = omega (arith, ap (λ (x : List ℕ). length x) b.is, length-append b.others rest) in
    let read = segments_again (length (b.first ∷ (b.others ++ rest))) inner bs rest is many in
    let step : bytes_at (b.first ∷ (b.others ++ rest)) ≡ Ok (bs, rest) =
    bytes_from b.first (b.others ++ rest) b.going
    ∙ ap (λ x. series_at segment_step (length (b.first ∷ (b.others ++ rest))) (x ++ rest)) (sym b.is) ∙ read in
    rw (expect_again open_angle ((blanks ++ inner) ++ rest), front, step) refl

abbrev begins_by : (b : ℕ) (text : List ℕ) → is_blank b ≡ false → eqb b close_brace ≡ false → eqb b close_bracket ≡ false → Begins (b ∷ text)
begins_by b text h i j = record { first = b; others = text; is = refl; solid = h; no_brace = i; no_bracket = j }

last_element : (limits : Limits) (levels n : ℕ) (text blanks : List ℕ) (t : Tree) (rest : List ℕ) → Shape limits levels text t → AreBlanks blanks
    → element_step (term_at limits levels) n ((text ++ (blanks ++ close_brace ∷ [])) ++ rest) ≡ Ok ((t ∷ [], false), rest)
unfolding element_step after_element_at
last_element limits levels n text blanks t rest s are =
    let read = shape_reads limits levels text t (blanks ++ close_brace ∷ rest) s (whole_before text blanks close_brace rest are refl) in
    rw (ended_parts text blanks (close_brace ∷ []) rest, read, skip_again blanks close_brace rest are refl) refl

further_element : (limits : Limits) (levels n : ℕ) (text before after others : List ℕ) (t : Tree) (rest : List ℕ) → Shape limits levels text t
    → AreBlanks before → AreBlanks after → Begins others → 0 < n
    → element_step (term_at limits levels) n ((text ++ (before ++ comma ∷ (after ++ others))) ++ rest) ≡ Ok ((t ∷ [], true), others ++ rest)
unfolding element_step after_element_at
further_element limits levels n text before after others t rest s one two b more =
    let tail = after ++ (others ++ rest) in
    let read = shape_reads limits levels text t (before ++ comma ∷ tail) s (whole_before text before comma tail one refl) in
    let some : eqb n 0 ≡ false = grind (arith, nat_tests) in
    rw (
      further_parts comma text before after others rest,
      read,
      skip_again before comma tail one refl,
      some,
      skip_to after others rest b.first b.others two b.is b.solid,
    ) refl

last_cell : (limits : Limits) (levels : ℕ) (text blanks : List ℕ) (head : Tree) (rest : List ℕ) → Shape limits levels text head → AreBlanks blanks
    → cell_step (term_at limits levels) (others_of limits levels) ((text ++ (blanks ++ close_bracket ∷ [])) ++ rest) ≡ Ok (head, Last Nil rest)
unfolding cell_step next_at
last_cell limits levels text blanks head rest s are =
    let read = shape_reads limits levels text head (blanks ++ close_bracket ∷ rest) s (whole_before text blanks close_bracket rest are refl) in
    rw (ended_parts text blanks (close_bracket ∷ []) rest, read, skip_again blanks close_bracket rest are refl) refl

further_cell : (limits : Limits) (levels : ℕ) (text before after others : List ℕ) (head : Tree) (rest : List ℕ) → Shape limits levels text head
    → AreBlanks before → AreBlanks after → Begins others
    → cell_step (term_at limits levels) (others_of limits levels) ((text ++ (before ++ comma ∷ (after ++ others))) ++ rest) ≡ Ok (head, Head (others ++ rest))
unfolding cell_step next_at
further_cell limits levels text before after others head rest s one two b =
    let tail = after ++ (others ++ rest) in
    let read = shape_reads limits levels text head (before ++ comma ∷ tail) s (whole_before text before comma tail one refl) in
    rw (
      further_parts comma text before after others rest,
      read,
      skip_again before comma tail one refl,
      skip_to after others rest b.first b.others two b.is b.solid,
    ) refl

barred_cell : (limits : Limits) (levels : ℕ) (text before after behind : List ℕ) (head : Tree) (next : Next) (rest : List ℕ) → Shape limits levels text head
    → AreBlanks before → AreBlanks after → Begins behind
    → tail_at (others_of limits levels) (behind ++ rest) ≡ Ok next
    → cell_step (term_at limits levels) (others_of limits levels) ((text ++ (before ++ vertical_bar ∷ (after ++ behind))) ++ rest) ≡ Ok (head, next)
unfolding cell_step next_at
barred_cell limits levels text before after behind head next rest s one two b found =
    let tail = after ++ (behind ++ rest) in
    let read = shape_reads limits levels text head (before ++ vertical_bar ∷ tail) s (whole_before text before vertical_bar tail one refl) in
    rw (
      further_parts vertical_bar text before after behind rest,
      read,
      skip_again before vertical_bar tail one refl,
      skip_to after behind rest b.first b.others two b.is b.solid,
      found,
    ) refl

begins_on : (text more : List ℕ) → Begins text → Begins (text ++ more)
begins_on text more b =
    record { first = b.first; others = b.others ++ more; is = ap (λ x. x ++ more) b.is; solid = b.solid; no_brace = b.no_brace; no_bracket = b.no_bracket }

begins_some : (text : List ℕ) → Begins text → 0 < length text
begins_some text b = omega (arith, ap (λ (x : List ℕ). length x) b.is)

one_step : (limits : Limits) (levels k : ℕ) (bytes : List ℕ) (head : Tree) (next : Next) (r : Read Tree)
    → cell_step (term_at limits levels) (others_of limits levels) bytes ≡ Ok (head, next)
    → cells_after head (cells_at (term_at limits levels) (others_of limits levels) k) next ≡ r
    → cells_at (term_at limits levels) (others_of limits levels) (suc k) bytes ≡ r
unfolding cells_at
one_step limits levels k bytes head next r e f = rw e f

one_element : (element : List ℕ → Read Tree) (n : ℕ) (bytes : List ℕ) (t : Tree) (more : Bool) (after : List ℕ) (r : Read (List Tree))
    → element_step element n bytes ≡ Ok ((t ∷ [], more), after)
    → series_rest (t ∷ []) (series_at (element_step element) n) more after ≡ r → series_at (element_step element) (suc n) bytes ≡ r
unfolding series_at
one_element element n bytes t more after r e f = rw e f

abbrev pub Rows : Limits → ℕ → List ℕ → Row → Type 0
Rows limits levels text row =
    Begins text × ((n : ℕ) → size row ≤ n → (rest : List ℕ) → series_at (element_step (term_at limits levels)) n (text ++ rest) ≡ Ok (elements row, rest))

abbrev pub Cells : Limits → ℕ → List ℕ → Tree → Type 0
Cells limits levels text t =
    Begins text × ((k : ℕ) → length text ≤ k → (rest : List ℕ) → cells_at (term_at limits levels) (others_of limits levels) k (text ++ rest) ≡ Ok (t, rest))

last_row : (limits : Limits) (levels : ℕ) (text blanks : List ℕ) (t : Tree) → Shape limits levels text t → AreBlanks blanks → (n : ℕ) → size (More t Ends) ≤ n
    → (rest : List ℕ)
    → series_at (element_step (term_at limits levels)) n ((text ++ (blanks ++ close_brace ∷ [])) ++ rest) ≡ Ok (t ∷ [], rest)
last_row limits levels text blanks t s are zero few rest = absurd (omega arith)
last_row limits levels text blanks t s are (suc n) few rest =
    one_element (term_at limits levels) n _ t false rest _ (last_element limits levels n text blanks t rest s are) refl

further_row : (limits : Limits) (levels : ℕ) (text before after others : List ℕ) (t : Tree) (row : Row) → Shape limits levels text t → AreBlanks before
    → AreBlanks after → Rows limits levels others row → (n : ℕ) → size (More t row) ≤ n
    → (rest : List ℕ) → 0 < size row
    → series_at (element_step (term_at limits levels)) n ((text ++ (before ++ comma ∷ (after ++ others))) ++ rest) ≡ Ok (t ∷ elements row, rest)
further_row limits levels text before after others t row s one two rows zero few rest some = absurd (omega arith)
further_row limits levels text before after others t row s one two rows (suc n) few rest some =
    let later : series_rest (t ∷ []) (series_at (element_step (term_at limits levels)) n) true (others ++ rest) ≡ Ok (t ∷ elements row, rest) =
    rw (rows.1 n (omega arith) rest) refl in
    one_element (term_at limits levels) n _ t true (others ++ rest) _
    (further_element limits levels n text before after others t rest s one two rows.0 (omega arith)) later

row_some : (limits : Limits) (levels : ℕ) (text : List ℕ) (row : Row) → AreElements limits levels text row → 0 < size row
row_some _ _ _ _ (LastElement limits levels text blanks t is are) = omega arith
row_some _ _ _ _ (MoreElements limits levels text before after rest t row is one two are) = omega arith

last_of : (limits : Limits) (levels : ℕ) (text blanks : List ℕ) (head : Tree) → Shape limits levels text head → AreBlanks blanks → (k : ℕ)
    → length (text ++ (blanks ++ close_bracket ∷ [])) ≤ k → (rest : List ℕ)
    → cells_at (term_at limits levels) (others_of limits levels) k ((text ++ (blanks ++ close_bracket ∷ [])) ++ rest) ≡ Ok (Cons head Nil, rest)
last_of limits levels text blanks head s are zero few rest =
    absurd (omega (arith, few, length-append text (blanks ++ close_bracket ∷ []), begins_some text (shape_begins limits levels text head s)))
last_of limits levels text blanks head s are (suc k) few rest =
    one_step limits levels k _ head (Last Nil rest) _ (last_cell limits levels text blanks head rest s are) refl

further_of : (limits : Limits) (levels : ℕ) (text before after others : List ℕ) (head tail : Tree) → Shape limits levels text head → AreBlanks before
    → AreBlanks after → Cells limits levels others tail → (k : ℕ)
    → length (text ++ (before ++ comma ∷ (after ++ others))) ≤ k → (rest : List ℕ)
    → cells_at (term_at limits levels) (others_of limits levels) k ((text ++ (before ++ comma ∷ (after ++ others))) ++ rest) ≡ Ok (Cons head tail, rest)
further_of limits levels text before after others head tail s one two cells zero few rest =
    absurd (omega (arith, few, length-append text (before ++ comma ∷ (after ++ others)), begins_some text (shape_begins limits levels text head s)))
further_of limits levels text before after others head tail s one two cells (suc k) few rest =
    let short : length others ≤ k =
    omega (
      arith,
      few,
      length-append text (before ++ comma ∷ (after ++ others)),
      length-append before (comma ∷ (after ++ others)),
      length-append after others,
      begins_some text (shape_begins limits levels text head s),
    ) in
    let later : cells_after head (cells_at (term_at limits levels) (others_of limits levels) k) (Head (others ++ rest)) ≡ Ok (Cons head tail, rest) =
    rw (cells.1 k short rest) refl in
    one_step limits levels k _ head (Head (others ++ rest)) _ (further_cell limits levels text before after others head rest s one two cells.0) later

barred_of : (limits : Limits) (levels : ℕ) (text before after last blanks : List ℕ) (head tail : Tree) → Shape limits levels text head → AreBlanks before
    → AreBlanks after → Shape limits (suc levels) last tail → AreBlanks blanks → (k : ℕ)
    → length (text ++ (before ++ vertical_bar ∷ (after ++ (last ++ (blanks ++ close_bracket ∷ []))))) ≤ k → (rest : List ℕ)
    → cells_at (term_at limits levels) (others_of limits levels) k
    ((text ++ (before ++ vertical_bar ∷ (after ++ (last ++ (blanks ++ close_bracket ∷ []))))) ++ rest) ≡ Ok (Cons head tail, rest)
barred_of limits levels text before after last blanks head tail s one two l are zero few rest =
    absurd (omega (
      arith,
      few,
      length-append text (before ++ vertical_bar ∷ (after ++ (last ++ (blanks ++ close_bracket ∷ [])))),
      begins_some text (shape_begins limits levels text head s),
    ))
barred_of limits levels text before after last blanks head tail s one two l are (suc k) few rest =
    let behind = last ++ (blanks ++ close_bracket ∷ []) in
    let short : length last ≤ k =
    omega (
      arith,
      few,
      length-append text (before ++ vertical_bar ∷ (after ++ behind)),
      length-append before (vertical_bar ∷ (after ++ behind)),
      length-append after behind,
      length-append last (blanks ++ close_bracket ∷ []),
      begins_some text (shape_begins limits levels text head s),
    ) in
    let r = tail_reads limits levels k last tail blanks rest are short l in
    let found : tail_at (others_of limits levels) (behind ++ rest) ≡ Ok r.next =
    ap (tail_at (others_of limits levels)) (ended_parts last blanks (close_bracket ∷ []) rest) ∙ r.found in
    one_step limits levels k _ head r.next _ (barred_cell limits levels text before after behind head r.next rest s one two
    (begins_on last (blanks ++ close_bracket ∷ []) (shape_begins limits (suc levels) last tail l)) found) (r.reads head)

mutual
  shape_again : (limits : Limits) (levels : ℕ) (text : List ℕ) (t : Tree) → IsTextOf limits levels text t → Shape limits levels text t
  shape_again _ _ _ _ (AnInteger limits levels text n is) = inl (integer_shape limits levels text n is)
  shape_again _ _ _ _ (AnAtom limits levels text name is) = inl (atom_shape limits levels text name is)
  shape_again _ _ _ _ (NoElements limits levels blanks are) =
      inl (record {
        begins = begins_by open_brace (blanks ++ close_brace ∷ []) refl refl refl;
        apart = refl;
        reads =
            λ rest whole. tuple_other limits (term_at limits levels) levels ((blanks ++ close_brace ∷ []) ++ rest)
            ∙ empty_tuple (term_at limits levels) limits.elements blanks rest are;
      })
  shape_again _ _ _ _ (ATuple limits levels blanks inner row are is few) =
      let r = rows_again limits levels inner row is in
      inl (record {
        begins = begins_by open_brace (blanks ++ inner) refl refl refl;
        apart = refl;
        reads =
            λ rest whole. tuple_other limits (term_at limits levels) levels ((blanks ++ inner) ++ rest)
            ∙ full_tuple (term_at limits levels) limits.elements blanks inner rest row are r.0 (r.1 limits.elements few rest);
      })
  shape_again _ _ _ _ (ANil limits levels blanks are) = inr (inl (record { blanks = blanks; are = are; is = refl; nil = refl }))
  shape_again _ _ _ _ (AList limits levels blanks inner t are is) =
      let c = cells_again limits levels inner t is in inr (inr (record { blanks = blanks; are = are; cells = inner; is = refl; begins = c.0; reads = c.1 }))
  shape_again _ _ _ _ (NoString limits levels) =
      inl (record {
        begins = begins_by double_quote (double_quote ∷ []) refl refl refl;
        apart = refl;
        reads = λ rest whole. string_other limits (term_at limits levels) levels (double_quote ∷ rest) ∙ no_string levels rest;
      })
  shape_again _ _ _ _ (AString limits levels c text cs are) =
      inl (record {
        begins = begins_by double_quote text refl refl refl;
        apart = refl;
        reads = λ rest whole. string_other limits (term_at limits (suc levels)) (suc levels) (text ++ rest) ∙ some_string levels text (c ∷ cs) rest are;
      })
  shape_again _ _ _ _ (NoBytes limits levels blanks are) =
      inl (record {
        begins = begins_by open_angle (open_angle ∷ blanks ++ close_angle ∷ close_angle ∷ []) refl refl refl;
        apart = refl;
        reads = λ rest whole. binary_other limits (term_at limits levels) levels (open_angle ∷ ((blanks ++ close_angle ∷ close_angle ∷ []) ++ rest))
            ∙ no_bytes blanks rest are;
      })
  shape_again _ _ _ _ (ABinary limits levels blanks inner bs are is) =
      inl (record {
        begins = begins_by open_angle (open_angle ∷ blanks ++ inner) refl refl refl;
        apart = refl;
        reads =
            λ rest whole. binary_other limits (term_at limits levels) levels (open_angle ∷ ((blanks ++ inner) ++ rest))
            ∙ some_bytes blanks inner bs rest are is;
      })

  rows_again : (limits : Limits) (levels : ℕ) (text : List ℕ) (row : Row) → AreElements limits levels text row → Rows limits levels text row
  rows_again _ _ _ _ (LastElement limits levels text blanks t is are) =
      let s = shape_again limits levels text t is in
      (begins_on text (blanks ++ close_brace ∷ []) (shape_begins limits levels text t s), last_row limits levels text blanks t s are)
  rows_again _ _ _ _ (MoreElements limits levels text before after others t row is one two are) =
      let s = shape_again limits levels text t is in
      let r = rows_again limits levels others row are in (
        begins_on text (before ++ comma ∷ (after ++ others)) (shape_begins limits levels text t s),
        λ n few rest. further_row limits levels text before after others t row s one two r n few rest (row_some limits levels others row are),
      )

  cells_again : (limits : Limits) (levels : ℕ) (text : List ℕ) (t : Tree) → AreCells limits levels text t → Cells limits levels text t
  cells_again _ _ _ _ (LastCell limits levels text blanks head is are) =
      let s = shape_again limits levels text head is in
      (begins_on text (blanks ++ close_bracket ∷ []) (shape_begins limits levels text head s), last_of limits levels text blanks head s are)
  cells_again _ _ _ _ (MoreCells limits levels text before after others head tail is one two are) =
      let s = shape_again limits levels text head is in
      let c = cells_again limits levels others tail are in (
        begins_on text (before ++ comma ∷ (after ++ others)) (shape_begins limits levels text head s),
        further_of limits levels text before after others head tail s one two c,
      )
  cells_again _ _ _ _ (LastTail limits levels text before after last blanks head tail is one two end are) =
      let s = shape_again limits levels text head is in
      let l = shape_again limits (suc levels) last tail end in (
        begins_on text (before ++ vertical_bar ∷ (after ++ (last ++ (blanks ++ close_bracket ∷ [])))) (shape_begins limits levels text head s),
        barred_of limits levels text before after last blanks head tail s one two l are,
      )

-- A text of a term at the front is read, if nothing that follows belongs to it.
pub term_again : (limits : Limits) (levels : ℕ) (text : List ℕ) (t : Tree) (rest : List ℕ) → IsTextOf limits levels text t → IsWhole text rest
    → term_at limits levels (text ++ rest) ≡ Ok (t, rest)
term_again limits levels text t rest is whole = shape_reads limits levels text t rest (shape_again limits levels text t is) whole

-- no text is empty
pub text_some : (limits : Limits) (levels : ℕ) (text : List ℕ) (t : Tree) → IsTextOf limits levels text t → 0 < length text
text_some limits levels text t is = begins_some text (shape_begins limits levels text t (shape_again limits levels text t is))
