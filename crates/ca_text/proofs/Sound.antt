-- What is read as a term is a text of it.
use Rattle.std.proofs.Common.{◌≡◌, ℕ, zero, suc, ◌<◌, ◌≤◌, Bool, true, false, leb, eqb, List, [], ◌∷◌, ◌++◌, length, Ok, refl, sym, ap, subst, ◌∙◌, append_assoc, arith, ◌⊎◌, inl, inr, ⊎_elim}
use Rattle.ca_term.proofs.Rows.{size_row}
use Rattle.std.proofs.lemmas.Bool.{leb-true, eqb-true}
use Rattle.std.proofs.lemmas.Bool.Decides.{nat_tests}
use Rattle.std.specs.List.{list_all}
use Rattle.std.specs.Char.{is_ascii, is_ascii_lowercase}
use Rattle.std.specs.Str.{encode_utf8_all}
use Rattle.ca_term.specs.Tree.{Tree, Tuple, Nil, Cons, Binary, row_of}
use Rattle.ca_text.specs.Bytes.{close_angle, close_brace, close_bracket, comma, double_quote, open_angle, open_brace, open_bracket, single_quote, vertical_bar}
use Rattle.ca_text.specs.Grammar.{ABinary, AList, ANil, AString, ATuple, AnAtom, AnInteger, AreBlanks, AreCells, AreCharacters, AreElements, AreSegments, Closed, IsSegment, IsTextOf, IsWhole, LastCell, LastElement, LastSegment, LastTail, Limits, MoreCells, MoreElements, MoreSegments, NoBytes, NoElements, NoString, OneByte, OneMore, Plain, Quoted, Shown, most_byte, points, skip}
use Rattle.ca_text.specs.declared.fault.Why.TheVariants.{Syntax, AtomTooLong}
use Rattle.ca_text.specs.Inner.Reading.{begins_character, Read, is_point, most_point, most_shown, quoted_at, one_byte_at, segment_at, after_segment_at, segment_step, series_at, series_rest, bytes_at, after_element_at, element_step, elements_at, Next, Head, Inner, Last, closed, inner_at, tail_at, next_at, cells_after, cell_step, cells_at, list_at, points_at, tuple_at, binary_at, atom_at, integer_term_at, other_at, bracketed, too_deep, begins_term, begins_character, term_at}
use Rattle.ca_text.proofs.Tools.{both}
use Rattle.ca_text.proofs.Yields.{Yields, Stands, Takes, any_yields, ok_yields, err_yields, if_yields, map_yields, bind_yields, expect_yields}
use Rattle.ca_text.proofs.Characters.{characters_taken}
use Rattle.ca_text.proofs.Numbers.{skipped, number_yields, whole_by, integer_taken, name_yields}

-- Parts of some bytes, one behind another.
with_end : (bytes text r blanks s closing rest : List ℕ) → bytes ≡ text ++ r → r ≡ blanks ++ s → s ≡ closing ++ rest
    → bytes ≡ (text ++ (blanks ++ closing)) ++ rest
with_end bytes text r blanks s closing rest e f g = rw (e, f, g) (simp append_assoc)

-- A part, blanks, a byte, blanks, and the rest.
with_more : (c : ℕ) (bytes text r before s tail after u others rest : List ℕ) → bytes ≡ text ++ r → r ≡ before ++ s → s ≡ c ∷ tail → tail ≡ after ++ u
    → u ≡ others ++ rest
    → bytes ≡ (text ++ (before ++ c ∷ (after ++ others))) ++ rest
with_more c bytes text r before s tail after u others rest e f g h i = rw (e, f, g, h, i) (simp append_assoc)

-- Blanks, and what stands behind them.
pub with_front_blanks : (bytes blanks inner text rest : List ℕ) → bytes ≡ blanks ++ inner → inner ≡ text ++ rest → bytes ≡ (blanks ++ text) ++ rest
with_front_blanks bytes blanks inner text rest e f = e ∙ ap (λ x. blanks ++ x) f ∙ sym (append_assoc blanks text rest)

-- ---- parts one after another

-- a comma and blanks, or the end
abbrev pub IsAfter : List ℕ → List ℕ → Bool → List ℕ → Type 0
IsAfter closing bytes true rest = (tail : List ℕ) × (bytes ≡ comma ∷ tail) × (skip tail ≡ rest)
IsAfter closing bytes false rest = bytes ≡ closing ++ rest

-- a part, blanks, and what follows them
abbrev pub IsStep : {B : Type 0} → (List ℕ → List B → Type 0) → List ℕ → List ℕ → List B → Bool → List ℕ → Type 0
IsStep IsPart closing bytes part more rest = (after : List ℕ) × Stands IsPart bytes part after × IsAfter closing (skip after) more rest

module _ {B : Type 0} (IsPart : List ℕ → List B → Type 0) (Are : ℕ → List ℕ → List B → Type 0) (closing : List ℕ)
    (last : (n : ℕ) (text blanks : List ℕ) (b : List B) → IsPart text b → AreBlanks blanks → Are (suc n) (text ++ (blanks ++ closing)) b)
    (another : (n : ℕ) (text before after rest : List ℕ) (b bs : List B) → IsPart text b → AreBlanks before → AreBlanks after → Are n rest bs
    → Are (suc n) (text ++ (before ++ comma ∷ (after ++ rest))) (b ++ bs))
    (step : ℕ → List ℕ → Read (List B × Bool))
    (step_taken : (n : ℕ) (bytes : List ℕ)
    → Yields (λ (x : (List B × Bool) × List ℕ). IsStep IsPart closing bytes x.0.0 x.0.1 x.1) (step n bytes)) where
  rest_taken : (n : ℕ) (bytes : List ℕ) (part : List B) (more : Bool) (rest : List ℕ) → Takes (Are n) (series_at step n)
      → IsStep IsPart closing bytes part more rest
      → Yields (λ (x : List B × List ℕ). Stands (Are (suc n)) bytes x.0 x.1) (series_rest part (series_at step n) more rest)
  rest_taken n bytes part true rest later p = bind_yields _ (later rest) (λ x others.
      let before = skipped p.0 in
      let after = skipped p.2.0 in
      ok_yields (record {
        text = p.1.text ++ (before.blanks ++ comma ∷ (after.blanks ++ others.text));
        whole = with_more comma bytes p.1.text p.0 before.blanks (skip p.0) p.2.0 after.blanks (skip p.2.0) others.text x.1 p.1.whole before.whole p.2.1
            after.whole (p.2.2 ∙ others.whole);
        is = another n p.1.text before.blanks after.blanks others.text part x.0 p.1.is before.are after.are others.is;
      }))
  rest_taken n bytes part false rest later p =
      let blanks = skipped p.0 in
      ok_yields (record {
        text = p.1.text ++ (blanks.blanks ++ closing);
        whole = with_end bytes p.1.text p.0 blanks.blanks (skip p.0) closing rest p.1.whole blanks.whole p.2;
        is = last n p.1.text blanks.blanks part p.1.is blanks.are;
      })

  -- Parts that are read one after another are so.
  series_taken : (n : ℕ) → Takes (Are n) (series_at step n)
  unfolding series_at
  series_taken zero bytes = err_yields
  series_taken (suc n) bytes = bind_yields _ (step_taken n bytes) (λ x p. rest_taken n bytes x.0.0 x.0.1 x.1 (series_taken n) p)

-- ---- binaries

-- Shown code points are those of ASCII.
pub shown_ascii : (cs : List ℕ) → list_all (is_point most_shown) cs ≡ true → list_all is_ascii cs ≡ true
shown_ascii [] h = refl
shown_ascii (c ∷ cs) h =
    let t = both (is_point most_shown c) (list_all (is_point most_shown) cs) h in
    let low = leb-true c most_shown (both (leb c most_shown) _ t.0).0 in
    let one : is_ascii c ≡ true = grind (arith, nat_tests) in
    rw (one, shown_ascii cs t.1) refl

one_byte_taken : Takes IsSegment one_byte_at
one_byte_taken bytes = bind_yields _ (number_yields most_byte bytes) (λ x r. ok_yields (record {
  text = r.digits;
  whole = r.whole;
  is = subst (λ v. IsSegment r.digits (v ∷ [])) r.value_is (OneByte r.digits r.numeral (omega (arith, r.value_is, r.bounded)));
}))

-- What is read as a part of a binary is one.
pub segment_taken : Takes IsSegment segment_at
unfolding segment_at
segment_taken [] = one_byte_taken []
segment_taken (b ∷ bytes) =
    if_yields (eqb b double_quote)
    (λ h. map_yields (characters_taken double_quote most_shown (omega arith) (omega arith) (λ x. absurd (omega arith)) Syntax (length bytes) bytes)
    (λ x r. record {
      text = double_quote ∷ r.text;
      whole = λ i. eqb-true b double_quote h i ∷ r.whole i;
      is = Shown r.text x.0 r.characters (shown_ascii x.0 r.points);
    }))
    (λ h. one_byte_taken (b ∷ bytes))

-- What follows a segment is a comma, or the closing brackets.
after_segment_taken : (bytes : List ℕ) → Yields (λ (x : Bool × List ℕ). IsAfter (close_angle ∷ close_angle ∷ []) bytes x.0 x.1) (after_segment_at bytes)
unfolding after_segment_at
after_segment_taken [] = err_yields
after_segment_taken (b ∷ bytes) =
    if_yields (eqb b comma)
    (λ h. ok_yields (bytes, ap (λ x. x ∷ bytes) (eqb-true b comma h), refl))
    (λ h. if_yields (eqb b close_angle)
    (λ i. bind_yields _ (expect_yields close_angle bytes) (λ rest e. ok_yields (λ j. eqb-true b close_angle i j ∷ e j)))
    (λ i. err_yields))

-- What is read as a segment and what follows it is so.
pub segment_step_taken : (n : ℕ) (bytes : List ℕ)
    → Yields (λ (x : (List ℕ × Bool) × List ℕ). IsStep IsSegment (close_angle ∷ close_angle ∷ []) bytes x.0.0 x.0.1 x.1) (segment_step n bytes)
unfolding segment_step
segment_step_taken n bytes = bind_yields _ (segment_taken bytes) (λ x s. bind_yields _ (after_segment_taken (skip x.1)) (λ y a. ok_yields (x.1, s, a)))

-- What are read as segments are segments.
segments_taken : (n : ℕ) → Takes AreSegments (series_at segment_step n)
segments_taken n = series_taken IsSegment (λ n. AreSegments) (close_angle ∷ close_angle ∷ []) (λ n. LastSegment) (λ n. MoreSegments)
    segment_step segment_step_taken n

-- ---- terms

-- a term stands at the front
pub record IsTermAt (limits : Limits) (levels : ℕ) (bytes : List ℕ) (t : Tree) (rest : List ℕ) : Type 0 where
  pub text : List ℕ
  pub whole : bytes ≡ text ++ rest
  pub is : IsTextOf limits levels text t
  pub ends : IsWhole text rest

-- a term is read here
abbrev pub YieldsTerm : Limits → ℕ → List ℕ → Read Tree → Type 0
YieldsTerm limits levels bytes r = Yields (λ (x : Tree × List ℕ). IsTermAt limits levels bytes x.0 x.1) r

-- what a reader reads are terms
abbrev pub ReadsTerms : Limits → ℕ → (List ℕ → Read Tree) → Type 0
ReadsTerms limits levels reader = (bytes : List ℕ) → YieldsTerm limits levels bytes (reader bytes)

module _ (limits : Limits) (levels : ℕ) where
  bytes_from : (bytes blanks inner : List ℕ) → bytes ≡ blanks ++ inner → AreBlanks blanks
      → Yields (λ (x : List ℕ × List ℕ). IsTermAt limits (suc levels) (open_angle ∷ open_angle ∷ bytes) (Binary x.0) x.1) (bytes_at inner)
  unfolding bytes_at
  bytes_from bytes blanks [] gap are = err_yields
  bytes_from bytes blanks (b ∷ inner) gap are =
      if_yields (eqb b close_angle)
      (λ h. bind_yields _ (expect_yields close_angle inner) (λ rest e. ok_yields (record {
        text = open_angle ∷ open_angle ∷ blanks ++ close_angle ∷ close_angle ∷ [];
        whole = ap (λ x. open_angle ∷ open_angle ∷ x) (with_front_blanks bytes blanks (b ∷ inner) (close_angle ∷ close_angle ∷ []) rest gap
            (λ i. eqb-true b close_angle h i ∷ e i));
        is = NoBytes limits levels blanks are;
        ends = whole_by (open_angle ∷ open_angle ∷ blanks ++ close_angle ∷ close_angle ∷ []) rest (λ c. refl);
      })))
      (λ h. map_yields (segments_taken (length (b ∷ inner)) (b ∷ inner)) (λ x r. record {
        text = open_angle ∷ open_angle ∷ blanks ++ r.text;
        whole = ap (λ y. open_angle ∷ open_angle ∷ y) (with_front_blanks bytes blanks (b ∷ inner) r.text x.1 gap r.whole);
        is = ABinary limits levels blanks r.text x.0 are r.is;
        ends = whole_by (open_angle ∷ open_angle ∷ blanks ++ r.text) x.1 (λ c. refl);
      }))

  binary_taken : (bytes : List ℕ) → YieldsTerm limits (suc levels) (open_angle ∷ bytes) (binary_at bytes)
  binary_taken bytes = bind_yields _ (expect_yields open_angle bytes) (λ after e.
      let gap = skipped after in
      bind_yields _ (bytes_from after gap.blanks (skip after) gap.whole gap.are)
      (λ x r. ok_yields (subst (λ y. IsTermAt limits (suc levels) (open_angle ∷ y) (Binary x.0) x.1) (sym e) r)))

-- What follows an element is a comma, or the closing brace.
after_element_taken : (n : ℕ) (bytes : List ℕ) → Yields (λ (x : Bool × List ℕ). IsAfter (close_brace ∷ []) bytes x.0 x.1) (after_element_at n bytes)
unfolding after_element_at
after_element_taken n [] = err_yields
after_element_taken n (b ∷ bytes) =
    if_yields (eqb b comma)
    (λ h. if_yields (eqb n 0) (λ i. err_yields) (λ i. ok_yields (bytes, ap (λ x. x ∷ bytes) (eqb-true b comma h), refl)))
    (λ h. if_yields (eqb b close_brace) (λ i. ok_yields (ap (λ x. x ∷ bytes) (eqb-true b close_brace i))) (λ i. err_yields))

after_some : (n : ℕ) (bytes : List ℕ) → Yields (λ (x : Bool × List ℕ). x.0 ≡ true → 0 < n) (after_element_at n bytes)
unfolding after_element_at
after_some n [] = err_yields
after_some n (b ∷ bytes) =
    if_yields (eqb b comma)
    (λ h. if_yields (eqb n 0) (λ i. err_yields) (λ i. ok_yields (λ t. grind (arith, nat_tests))))
    (λ h. if_yields (eqb b close_brace) (λ i. ok_yields (λ t. absurd cc)) (λ i. err_yields))

-- A further element follows only where there may be one.
pub element_some : (element : List ℕ → Read Tree) (n : ℕ) (bytes : List ℕ)
    → Yields (λ (x : (List Tree × Bool) × List ℕ). x.0.1 ≡ true → 0 < n) (element_step element n bytes)
unfolding element_step
element_some element n bytes = bind_yields _ (any_yields (element bytes)) (λ x _. bind_yields _ (after_some n (skip x.1)) (λ y h. ok_yields h))

module _ (limits : Limits) (levels : ℕ) (element : List ℕ → Read Tree) (sound : ReadsTerms limits levels element) where
  -- one element
  abbrev pub IsElement : List ℕ → List Tree → Type 0
  IsElement text ts = (t : Tree) × (ts ≡ t ∷ []) × IsTextOf limits levels text t

  -- elements and the closing brace, at most so many
  abbrev pub AreMost : ℕ → List ℕ → List Tree → Type 0
  AreMost n text ts = AreElements limits levels text (row_of ts) × (length ts ≤ n)

  -- What is read as an element and what follows it is so.
  pub element_step_taken : (n : ℕ) (bytes : List ℕ)
      → Yields (λ (x : (List Tree × Bool) × List ℕ). IsStep IsElement (close_brace ∷ []) bytes x.0.0 x.0.1 x.1) (element_step element n bytes)
  unfolding element_step
  element_step_taken n bytes = bind_yields _ (sound bytes) (λ x s. bind_yields _ (after_element_taken n (skip x.1))
      (λ y a. ok_yields (x.1, record { text = s.text; whole = s.whole; is = (x.0, refl, s.is) }, a)))

  -- An element and the closing brace.
  pub last_most : (n : ℕ) (text blanks : List ℕ) (ts : List Tree) → IsElement text ts → AreBlanks blanks
      → AreMost (suc n) (text ++ (blanks ++ close_brace ∷ [])) ts
  last_most n text blanks ts is are =
      subst (AreMost (suc n) (text ++ (blanks ++ close_brace ∷ []))) (sym is.1) (LastElement limits levels text blanks is.0 is.2 are, omega arith)

  -- An element, a comma, and elements.
  pub another_most : (n : ℕ) (text before after rest : List ℕ) (ts us : List Tree) → IsElement text ts → AreBlanks before → AreBlanks after → AreMost n rest us
      → AreMost (suc n) (text ++ (before ++ comma ∷ (after ++ rest))) (ts ++ us)
  another_most n text before after rest ts us is one two are =
      subst (λ vs. AreMost (suc n) (text ++ (before ++ comma ∷ (after ++ rest))) (vs ++ us)) (sym is.1)
      (MoreElements limits levels text before after rest is.0 (row_of us) is.2 one two are.0, omega (arith, are.1))

  elements_from : (bytes blanks inner : List ℕ) → bytes ≡ blanks ++ inner → AreBlanks blanks
      → Yields (λ (x : List Tree × List ℕ). IsTermAt limits (suc levels) (open_brace ∷ bytes) (Tuple (row_of x.0)) x.1)
      (elements_at element limits.elements inner)
  unfolding elements_at
  elements_from bytes blanks [] gap are = err_yields
  elements_from bytes blanks (b ∷ inner) gap are =
      if_yields (eqb b close_brace)
      (λ h. ok_yields (record {
        text = open_brace ∷ blanks ++ close_brace ∷ [];
        whole = ap (λ x. open_brace ∷ x) (with_front_blanks bytes blanks (b ∷ inner) (close_brace ∷ []) inner gap
            (ap (λ x. x ∷ inner) (eqb-true b close_brace h)));
        is = NoElements limits levels blanks are;
        ends = whole_by (open_brace ∷ blanks ++ close_brace ∷ []) inner (λ c. refl);
      }))
      (λ h. map_yields (series_taken IsElement AreMost (close_brace ∷ []) last_most another_most (element_step element) element_step_taken limits.elements
      (b ∷ inner))
      (λ x r. record {
        text = open_brace ∷ blanks ++ r.text;
        whole = ap (λ y. open_brace ∷ y) (with_front_blanks bytes blanks (b ∷ inner) r.text x.1 gap r.whole);
        is = ATuple limits levels blanks r.text (row_of x.0) are r.is.0 (omega (arith, size_row x.0, r.is.1));
        ends = whole_by (open_brace ∷ blanks ++ r.text) x.1 (λ c. refl);
      }))

  tuple_taken : (bytes : List ℕ) → YieldsTerm limits (suc levels) (open_brace ∷ bytes) (tuple_at element limits.elements (skip bytes))
  tuple_taken bytes = let gap = skipped bytes in bind_yields _ (elements_from bytes gap.blanks (skip bytes) gap.whole gap.are) (λ x r. ok_yields r)

  -- ---- lists

  -- what follows a head and blanks, with a last tail on the level of the list
  abbrev pub IsNext : List ℕ → Next → Type 0
  -- a comma, and then a head
  IsNext bytes (Head rest) = (tail : List ℕ) × (bytes ≡ comma ∷ tail) × (skip tail ≡ rest)
  -- a bar and an opening bracket, and then a head
  IsNext bytes (Inner rest) = (tail inner : List ℕ) × (bytes ≡ vertical_bar ∷ tail) × (skip tail ≡ open_bracket ∷ inner) × (skip inner ≡ rest)
  -- the closing bracket, or a bar, a tail and the closing bracket
  IsNext bytes (Last t rest) =
      ((t ≡ Nil) × (bytes ≡ close_bracket ∷ rest)) ⊎ ((tail after : List ℕ) × (bytes ≡ vertical_bar ∷ tail) × IsTermAt limits (suc levels) (skip tail) t after ×
      (skip after ≡ close_bracket ∷ rest))

  closed_taken : (bytes tail : List ℕ) (r : Read Tree) → bytes ≡ vertical_bar ∷ tail → YieldsTerm limits (suc levels) (skip tail) r
      → Yields (IsNext bytes) (closed r)
  closed_taken bytes tail r bar y =
      bind_yields _ y (λ x is. bind_yields _ (expect_yields close_bracket (skip x.1)) (λ rest e. ok_yields (inr (tail, x.1, bar, is, e))))

  inner_taken : (bytes tail bracket inner : List ℕ) → bytes ≡ vertical_bar ∷ tail → skip tail ≡ open_bracket ∷ bracket → skip bracket ≡ inner
      → Yields (IsNext bytes) (inner_at inner)
  inner_taken bytes tail bracket [] bar opens gap = ok_yields (tail, bracket, bar, opens, gap)
  inner_taken bytes tail bracket (b ∷ inner) bar opens gap =
      if_yields (eqb b close_bracket)
      (λ h. let blanks = skipped bracket in
      let closing : skip bracket ≡ (close_bracket ∷ []) ++ inner = gap ∙ ap (λ x. x ∷ inner) (eqb-true b close_bracket h) in
      closed_taken bytes tail (Ok (Nil, inner)) bar (ok_yields (record {
        text = open_bracket ∷ blanks.blanks ++ close_bracket ∷ [];
        whole = opens ∙ ap (λ x. open_bracket ∷ x) (with_front_blanks bracket blanks.blanks (skip bracket) (close_bracket ∷ []) inner blanks.whole closing);
        is = ANil limits levels blanks.blanks blanks.are;
        ends = whole_by (open_bracket ∷ blanks.blanks ++ close_bracket ∷ []) inner (λ c. refl);
      })))
      (λ h. ok_yields (tail, bracket, bar, opens, gap))

  -- A list in brackets behind a bar is a term.
  pub inner_list : (tail inner rest : List ℕ) (t : Tree) → skip tail ≡ open_bracket ∷ inner → Stands (AreCells limits levels) (skip inner) t rest
      → IsTermAt limits (suc levels) (skip tail) t rest
  inner_list tail inner rest t opens cells =
      let gap = skipped inner in
      record {
        text = open_bracket ∷ gap.blanks ++ cells.text;
        whole = opens ∙ ap (λ x. open_bracket ∷ x) (with_front_blanks inner gap.blanks (skip inner) cells.text rest gap.whole cells.whole);
        is = AList limits levels gap.blanks cells.text t gap.are cells.is;
        ends = whole_by (open_bracket ∷ gap.blanks ++ cells.text) rest (λ c. refl);
      }

  module _ (other : List ℕ → Read Tree) (others_sound : ReadsTerms limits (suc levels) other) where
    tail_taken : (bytes tail rest : List ℕ) → bytes ≡ vertical_bar ∷ tail → skip tail ≡ rest → Yields (IsNext bytes) (tail_at other rest)
    unfolding tail_at
    tail_taken bytes tail [] bar gap = closed_taken bytes tail (other []) bar
        (subst (λ x. YieldsTerm limits (suc levels) (skip tail) (other x)) gap (others_sound (skip tail)))
    tail_taken bytes tail (b ∷ rest) bar gap =
        if_yields (eqb b open_bracket)
        (λ h. inner_taken bytes tail rest (skip rest) bar (gap ∙ ap (λ x. x ∷ rest) (eqb-true b open_bracket h)) refl)
        (λ h. closed_taken bytes tail (other (b ∷ rest)) bar
        (subst (λ x. YieldsTerm limits (suc levels) (skip tail) (other x)) gap (others_sound (skip tail))))

    -- What is read behind a head and blanks is what follows a head.
    next_taken : (bytes : List ℕ) → Yields (IsNext bytes) (next_at other bytes)
    unfolding next_at
    next_taken [] = err_yields
    next_taken (b ∷ bytes) =
        if_yields (eqb b comma)
        (λ h. ok_yields (bytes, ap (λ x. x ∷ bytes) (eqb-true b comma h), refl))
        (λ h. if_yields (eqb b close_bracket)
        (λ i. ok_yields (inl (refl, ap (λ x. x ∷ bytes) (eqb-true b close_bracket i))))
        (λ i. if_yields (eqb b vertical_bar)
        (λ j. tail_taken (b ∷ bytes) bytes (skip bytes) (ap (λ x. x ∷ bytes) (eqb-true b vertical_bar j)) refl)
        (λ j. err_yields)))

    barred : (bytes : List ℕ) (head t : Tree) (r tail after rest : List ℕ) → IsTermAt limits levels bytes head r → skip r ≡ vertical_bar ∷ tail
        → IsTermAt limits (suc levels) (skip tail) t after → skip after ≡ close_bracket ∷ rest
        → Stands (AreCells limits levels) bytes (Cons head t) rest
    barred bytes head t r tail after rest first bar last closing =
        let before = skipped r in
        let behind = skipped tail in
        let blanks = skipped after in
        let ending = with_end (skip tail) last.text after blanks.blanks (skip after) (close_bracket ∷ []) rest last.whole blanks.whole closing in
        record {
          text = first.text ++ (before.blanks ++ vertical_bar ∷ (behind.blanks ++ (last.text ++ (blanks.blanks ++ close_bracket ∷ []))));
          whole = with_more vertical_bar bytes first.text r before.blanks (skip r) tail behind.blanks (skip tail)
              (last.text ++ (blanks.blanks ++ close_bracket ∷ [])) rest first.whole before.whole bar behind.whole ending;
          is = LastTail limits levels first.text before.blanks behind.blanks last.text blanks.blanks head t first.is before.are behind.are last.is blanks.are;
        }

    cells_next : (cells : List ℕ → Read Tree) (bytes : List ℕ) (head : Tree) (r : List ℕ) (next : Next) → Takes (AreCells limits levels) cells
        → IsTermAt limits levels bytes head r → IsNext (skip r) next
        → Yields (λ (x : Tree × List ℕ). Stands (AreCells limits levels) bytes x.0 x.1) (cells_after head cells next)
    cells_next cells bytes head r (Head inner) later first next = bind_yields _ (later inner) (λ x others.
        let before = skipped r in
        let behind = skipped next.0 in
        ok_yields (record {
          text = first.text ++ (before.blanks ++ comma ∷ (behind.blanks ++ others.text));
          whole = with_more comma bytes first.text r before.blanks (skip r) next.0 behind.blanks
              (skip next.0) others.text x.1 first.whole before.whole next.1 behind.whole (next.2 ∙ others.whole);
          is = MoreCells limits levels first.text before.blanks behind.blanks others.text head x.0 first.is before.are behind.are others.is;
        }))
    cells_next cells bytes head r (Inner inner) later first next = bind_yields _ (later inner) (λ x others.
        bind_yields _ (expect_yields close_bracket (skip x.1)) (λ rest closing.
        let there = subst (λ y. Stands (AreCells limits levels) y x.0 x.1) (sym next.4) others in
        ok_yields (barred bytes head x.0 r next.0 x.1 rest first next.2 (inner_list next.0 next.1 x.1 x.0 next.3 there) closing)))
    cells_next cells bytes head r (Last tail rest) later first next =
        ok_yields (⊎_elim
        (λ h. let before = skipped r in
        let ending : Stands (AreCells limits levels) bytes (Cons head Nil) rest = record {
          text = first.text ++ (before.blanks ++ close_bracket ∷ []);
          whole = with_end bytes first.text r before.blanks (skip r) (close_bracket ∷ []) rest first.whole before.whole h.1;
          is = LastCell limits levels first.text before.blanks head first.is before.are;
        } in
        subst (λ x. Stands (AreCells limits levels) bytes (Cons head x) rest) (sym h.0) ending)
        (λ h. barred bytes head tail r h.0 h.1 rest first h.2 h.3 h.4)
        next)

    -- What is read as a head and what follows it is so.
    pub cell_step_taken : (bytes : List ℕ)
        → Yields (λ (x : Tree × Next). (r : List ℕ) × IsTermAt limits levels bytes x.0 r × IsNext (skip r) x.1) (cell_step element other bytes)
    unfolding cell_step
    cell_step_taken bytes = bind_yields _ (sound bytes) (λ x is. bind_yields _ (next_taken (skip x.1)) (λ next n. ok_yields (x.1, is, n)))

    -- What are read as cells are cells.
    pub cells_taken : (n : ℕ) → Takes (AreCells limits levels) (cells_at element other n)
    unfolding cells_at
    cells_taken zero bytes = err_yields
    cells_taken (suc n) bytes =
        bind_yields _ (cell_step_taken bytes) (λ x p. cells_next (cells_at element other n) bytes x.0 p.0 x.1 (cells_taken n) p.1 p.2)

    list_from : (bytes blanks inner : List ℕ) → bytes ≡ blanks ++ inner → AreBlanks blanks
        → YieldsTerm limits (suc levels) (open_bracket ∷ bytes) (list_at element other inner)
    unfolding list_at
    list_from bytes blanks [] gap are = err_yields
    list_from bytes blanks (b ∷ inner) gap are =
        if_yields (eqb b close_bracket)
        (λ h. ok_yields (record {
          text = open_bracket ∷ blanks ++ close_bracket ∷ [];
          whole = ap (λ x. open_bracket ∷ x) (with_front_blanks bytes blanks (b ∷ inner) (close_bracket ∷ []) inner gap
              (ap (λ x. x ∷ inner) (eqb-true b close_bracket h)));
          is = ANil limits levels blanks are;
          ends = whole_by (open_bracket ∷ blanks ++ close_bracket ∷ []) inner (λ c. refl);
        }))
        (λ h. map_yields (cells_taken (length (b ∷ inner)) (b ∷ inner)) (λ x r. record {
          text = open_bracket ∷ blanks ++ r.text;
          whole = ap (λ y. open_bracket ∷ y) (with_front_blanks bytes blanks (b ∷ inner) r.text x.1 gap r.whole);
          is = AList limits levels blanks r.text x.0 are r.is;
          ends = whole_by (open_bracket ∷ blanks ++ r.text) x.1 (λ c. refl);
        }))

    bracketed_taken : ReadsTerms limits (suc levels) (bracketed (list_at element other) other)
    bracketed_taken [] = others_sound []
    bracketed_taken (b ∷ bytes) =
        if_yields (eqb b open_bracket)
        (λ h. let gap = skipped bytes in
        subst (λ y. YieldsTerm limits (suc levels) (y ∷ bytes) (list_at element other (skip bytes))) (sym (eqb-true b open_bracket h))
        (list_from bytes gap.blanks (skip bytes) gap.whole gap.are))
        (λ h. others_sound (b ∷ bytes))

-- ---- other terms

-- No code points are the closing quote alone.
pub closed_text : (close : ℕ) (text cs : List ℕ) → AreCharacters close text cs → cs ≡ [] → text ≡ close ∷ []
closed_text _ _ _ (Closed close) e = refl
closed_text _ _ _ (OneMore close c first rest cs is are) e = absurd cc

module _ (limits : Limits) where
  quoted_taken : (levels : ℕ) (bytes : List ℕ) → YieldsTerm limits (suc levels) (single_quote ∷ bytes) (quoted_at limits.characters bytes)
  quoted_taken levels bytes =
      bind_yields _ (characters_taken single_quote most_point (omega arith) (omega arith) (λ h. refl) AtomTooLong limits.characters bytes)
      (λ x r. ok_yields (record {
        text = single_quote ∷ r.text;
        whole = ap (λ y. single_quote ∷ y) r.whole;
        is = AnAtom limits levels (single_quote ∷ r.text) (encode_utf8_all x.0) (Quoted limits r.text x.0 r.characters r.few);
        ends = whole_by (single_quote ∷ r.text) x.1 (λ c. refl);
      }))

  no_string : (levels : ℕ) (bytes rest : List ℕ) → bytes ≡ (double_quote ∷ []) ++ rest → IsTermAt limits (suc levels) (double_quote ∷ bytes) Nil rest
  no_string levels bytes rest whole = record {
    text = double_quote ∷ double_quote ∷ [];
    whole = ap (λ x. double_quote ∷ x) whole;
    is = NoString limits levels;
    ends = whole_by (double_quote ∷ double_quote ∷ []) rest (λ c. refl);
  }

  points_list : (levels : ℕ) (text cs bytes rest : List ℕ) → AreCharacters double_quote text cs → bytes ≡ text ++ rest
      → IsTermAt limits (suc (suc levels)) (double_quote ∷ bytes) (points cs) rest
  points_list levels text [] bytes rest are whole = no_string (suc levels) bytes rest (whole ∙ ap (λ x. x ++ rest) (closed_text double_quote text [] are refl))
  points_list levels text (c ∷ cs) bytes rest are whole = record {
    text = double_quote ∷ text;
    whole = ap (λ x. double_quote ∷ x) whole;
    is = AString limits levels c text cs are;
    ends = whole_by (double_quote ∷ text) rest (λ d. refl);
  }

  string_taken : (levels : ℕ) (bytes : List ℕ) → YieldsTerm limits (suc levels) (double_quote ∷ bytes) (points_at levels bytes)
  unfolding points_at
  string_taken zero [] = err_yields
  string_taken zero (b ∷ bytes) =
      if_yields (eqb b double_quote)
      (λ h. ok_yields (no_string 0 (b ∷ bytes) bytes (ap (λ x. x ∷ bytes) (eqb-true b double_quote h))))
      (λ h. if_yields (begins_character double_quote most_point b) (λ i. err_yields) (λ i. err_yields))
  string_taken (suc levels) bytes =
      bind_yields _ (characters_taken double_quote most_point (omega arith) (omega arith) (λ h. refl) Syntax (length bytes) bytes)
      (λ x r. ok_yields (points_list levels r.text x.0 bytes x.1 r.characters r.whole))

  atom_taken : (levels b : ℕ) (bytes : List ℕ) → is_ascii_lowercase b ≡ true
      → YieldsTerm limits (suc levels) (b ∷ bytes) (atom_at limits.characters (b ∷ bytes))
  atom_taken levels b bytes h = bind_yields _ (name_yields limits.characters b bytes h) (λ x r. ok_yields (record {
    text = x.0;
    whole = r.whole;
    is = AnAtom limits levels x.0 x.0 (Plain limits x.0 r.form r.few);
    ends = r.ends;
  }))

  integer_term_taken : (levels : ℕ) → ReadsTerms limits (suc levels) integer_term_at
  integer_term_taken levels bytes = bind_yields _ (integer_taken bytes) (λ x r. ok_yields (record {
    text = r.text;
    whole = r.whole;
    is = AnInteger limits levels r.text x.0 r.is;
    ends = r.ends;
  }))

  at_byte : (levels b c : ℕ) (bytes : List ℕ) (r : Read Tree) → eqb b c ≡ true → YieldsTerm limits levels (c ∷ bytes) r → YieldsTerm limits levels (b ∷ bytes) r
  at_byte levels b c bytes r e y = subst (λ x. YieldsTerm limits levels (x ∷ bytes) r) (sym (eqb-true b c e)) y

  -- What is read as a term outside brackets is one.
  pub other_taken : (levels : ℕ) (element : List ℕ → Read Tree) → ReadsTerms limits levels element
      → ReadsTerms limits (suc levels) (other_at limits element levels)
  unfolding other_at
  other_taken levels element sound [] = integer_term_taken levels []
  other_taken levels element sound (b ∷ bytes) =
      if_yields (eqb b open_brace) (λ h. at_byte (suc levels) b open_brace bytes _ h (tuple_taken limits levels element sound bytes)) (λ h.
      if_yields (eqb b double_quote) (λ i. at_byte (suc levels) b double_quote bytes _ i (string_taken levels bytes)) (λ i.
      if_yields (eqb b single_quote) (λ j. at_byte (suc levels) b single_quote bytes _ j (quoted_taken levels bytes)) (λ j.
      if_yields (eqb b open_angle) (λ k. at_byte (suc levels) b open_angle bytes _ k (binary_taken limits levels bytes)) (λ k.
      if_yields (is_ascii_lowercase b) (λ l. atom_taken levels b bytes l) (λ l. integer_term_taken levels (b ∷ bytes))))))

  none_deep : ReadsTerms limits 0 too_deep
  none_deep [] = err_yields
  none_deep (b ∷ bytes) = if_yields (begins_term b) (λ h. err_yields) (λ h. err_yields)

  -- What is read as a term is a text of it.
  pub term_taken : (levels : ℕ) → ReadsTerms limits levels (term_at limits levels)
  unfolding term_at
  term_taken zero = none_deep
  term_taken (suc levels) =
      bracketed_taken limits levels (term_at limits levels) (term_taken levels) (other_at limits (term_at limits levels) levels)
      (other_taken levels (term_at limits levels) (term_taken levels))
