-- Where a reader of terms halts, the bytes that it took begin a text.
use Rattle.std.proofs.Common.{◌≡◌, ℕ, zero, suc, true, eqb, List, [], ◌∷◌, ◌++◌, length, Result, Ok, pos, refl, sym, ap, subst, ◌∙◌, append_assoc, append-nil, arith}
use Rattle.std.proofs.lemmas.Bool.{eqb-true}
use Rattle.ca_term.specs.Tree.{Tree, Integer, Tuple, Nil, Cons, Ends, row_of}
use Rattle.ca_text.specs.Bytes.{close_brace, close_bracket, comma, digit_zero, open_brace, open_bracket, vertical_bar}
use Rattle.ca_text.specs.Grammar.{Limits, AreBlanks, IsTextOf, AnInteger, FromZero, NoElements, ATuple, ANil, AList, AreCells, LastCell, MoreCells, LastTail, skip}
use Rattle.ca_text.specs.declared.fault.Fault.{Fault}
use Rattle.ca_text.specs.declared.fault.Why.TheVariants.{Syntax, TooWide}
use Rattle.ca_text.specs.Inner.Reading.{Read, expect, series_at, after_element_at, element_step, elements_at, tuple_at, Next, Head, Inner, Last, closed, inner_at, tail_at, next_at, cells_after, cell_step, cells_at, list_at, bracketed}
use Rattle.ca_text.proofs.Numbers.{skipped, whole_by}
use Rattle.ca_text.proofs.Sound.{AreMost, IsElement, IsNext, IsTermAt, ReadsTerms, another_most, cells_taken, element_some, element_step_taken, inner_list, last_most, cell_step_taken, with_front_blanks}
use Rattle.ca_text.proofs.Yields.{Stands, Takes}
use Rattle.ca_text.proofs.HaltsSeries.{series_halts}
use Rattle.ca_term.proofs.Rows.{size_row}
use Rattle.ca_text.proofs.Halts.{GoesOn, HaltsAt, Halts, ok_halts, here_halts, at_halts, if_halts, whole_halts, byte_halts, bind_halts, behind_halts, map_halts, behind_as, expect_behind}

after_element_halts : {A : Type 0} {IsOf : List ℕ → A → Type 0} (n : ℕ) (taken bytes : List ℕ) → GoesOn IsOf taken
    → HaltsAt IsOf (taken ++ bytes) (after_element_at n bytes)
unfolding after_element_at
after_element_halts n taken [] goes = at_halts Syntax taken [] goes
after_element_halts n taken (b ∷ bytes) goes =
    if_halts (eqb b comma) (λ h. if_halts (eqb n 0) (λ i. at_halts TooWide taken (b ∷ bytes) goes) (λ i. ok_halts))
    (λ h. if_halts (eqb b close_brace) (λ i. ok_halts) (λ i. at_halts Syntax taken (b ∷ bytes) goes))

-- a text of each level
pub zero_text : (limits : Limits) (levels : ℕ) → IsTextOf limits (suc levels) (digit_zero ∷ []) (Integer (pos 0))
zero_text limits levels = AnInteger limits levels (digit_zero ∷ []) (pos 0) (FromZero (digit_zero ∷ []) (omega arith, (omega arith, tt)) (omega arith))

module _ (limits : Limits) (levels : ℕ) (element : List ℕ → Read Tree) (sound : ReadsTerms limits levels element)
    (halts : Halts element (IsTextOf limits levels)) where
  -- elements of a tuple, at most so many
  abbrev IsRow : ℕ → List ℕ → List Tree → Type 0
  IsRow = AreMost limits levels element sound

  -- an element and the closing brace
  one_element : (n : ℕ) (text blanks : List ℕ) (t : Tree) → IsTextOf limits levels text t → AreBlanks blanks → GoesOn (IsRow (suc n)) (text ++ blanks)
  one_element n text blanks t is are = (
    close_brace ∷ [],
    t ∷ [],
    subst (λ x. IsRow (suc n) x (t ∷ [])) (sym (append_assoc text blanks (close_brace ∷ [])))
        (last_most limits levels element sound n text blanks (t ∷ []) (t, refl, is) are),
  )

  element_halts : (n : ℕ) → Halts (element_step element n) (IsRow (suc n))
  unfolding element_step
  element_halts n bytes =
      bind_halts _ (map_halts (λ part a is. let g = one_element n part [] a is refl in
      (g.0, g.1, subst (λ x. IsRow (suc n) (x ++ g.0) g.1) (append-nil part) g.2)) (halts bytes))
      (λ x e. let first = (sound bytes).is x e in
      let gap = skipped x.1 in
      let whole : bytes ≡ (first.text ++ gap.blanks) ++ skip x.1 =
      first.whole ∙ ap (λ y. first.text ++ y) gap.whole ∙ sym (append_assoc first.text gap.blanks (skip x.1)) in
      whole_halts whole (bind_halts _ (after_element_halts n (first.text ++ gap.blanks) (skip x.1) (one_element n first.text gap.blanks x.0 first.is gap.are))
      (λ y k. ok_halts)))

  once_more : (n : ℕ) (bytes : List ℕ) (ts : List Tree) (after : List ℕ) → element_step element n bytes ≡ Ok ((ts, true), after) → (text : List ℕ)
      → IsElement limits levels element sound text ts
      → (more : List ℕ) × (us : List Tree) × IsRow n more us
  once_more zero bytes ts after e text is = absurd (omega (arith, (element_some element zero bytes).is ((ts, true), after) e refl))
  once_more (suc n) bytes ts after e text is = (text ++ ([] ++ close_brace ∷ []), ts, last_most limits levels element sound n text [] ts is refl)

  elements_halt : (n : ℕ) → Halts (series_at (element_step element) n) (IsRow n)
  elements_halt =
      series_halts (IsElement limits levels element sound) IsRow (close_brace ∷ []) (another_most limits levels element sound) (element_step element)
      (element_step_taken limits levels element sound) element_halts once_more

  tuple_inner : (blanks inner : List ℕ) → AreBlanks blanks
      → HaltsAt (IsTextOf limits (suc levels)) ((open_brace ∷ blanks) ++ inner) (elements_at element limits.elements inner)
  unfolding elements_at
  tuple_inner blanks [] are = at_halts Syntax (open_brace ∷ blanks) [] (close_brace ∷ [], Tuple Ends, NoElements limits levels blanks are)
  tuple_inner blanks (b ∷ inner) are =
      if_halts (eqb b close_brace) (λ h. ok_halts)
      (λ h. behind_as (open_brace ∷ blanks) (close_brace ∷ [], Tuple Ends, NoElements limits levels blanks are)
      (λ rest ts most. (Tuple (row_of ts), ATuple limits levels blanks rest (row_of ts) are most.0 (omega (arith, size_row ts, most.1))))
      (elements_halt limits.elements (b ∷ inner)))

  -- Where the reading of a tuple halts, what it took goes on to a text of one.
  pub tuple_halts : (bytes : List ℕ) → HaltsAt (IsTextOf limits (suc levels)) (open_brace ∷ bytes) (tuple_at element limits.elements (skip bytes))
  tuple_halts bytes =
      let gap = skipped bytes in
      whole_halts (ap (λ x. open_brace ∷ x) gap.whole) (bind_halts _ (tuple_inner gap.blanks (skip bytes) gap.are) (λ x e. ok_halts))

  -- ---- lists

  -- what follows a head and blanks, up to the end of the list
  abbrev pub IsEnding : List ℕ → Tree → Type 0
  IsEnding rest tail =
      (head : Tree) (text blanks : List ℕ) → IsTextOf limits levels text head → AreBlanks blanks → AreCells limits levels
      (text ++ (blanks ++ rest)) (Cons head tail)

  closing : IsEnding (close_bracket ∷ []) Nil
  closing head text blanks is are = LastCell limits levels text blanks head is are

  -- a last tail, blanks and the closing bracket
  pub record IsLast (text : List ℕ) (tail : Tree) : Type 0 where
    pub last : List ℕ
    pub blanks : List ℕ
    pub whole : text ≡ last ++ (blanks ++ close_bracket ∷ [])
    pub is : IsTextOf limits (suc levels) last tail
    pub are : AreBlanks blanks

  last_of : (last blanks : List ℕ) (tail : Tree) → IsTextOf limits (suc levels) last tail → AreBlanks blanks
      → IsLast (last ++ (blanks ++ close_bracket ∷ [])) tail
  last_of last blanks tail is are = record { last = last; blanks = blanks; whole = refl; is = is; are = are }

  bar : (after text : List ℕ) (tail : Tree) → AreBlanks after → IsLast text tail → IsEnding (vertical_bar ∷ (after ++ text)) tail
  bar after text tail are l head first before is one =
      subst (λ x. AreCells limits levels (first ++ (before ++ vertical_bar ∷ (after ++ x))) (Cons head tail)) (sym l.whole)
      (LastTail limits levels first before after l.last l.blanks head tail is one are l.is l.are)

  -- behind a last tail and blanks the closing bracket goes on
  tail_goes : (last blanks : List ℕ) (tail : Tree) → IsTextOf limits (suc levels) last tail → AreBlanks blanks → GoesOn IsLast (last ++ blanks)
  tail_goes last blanks tail is are = (
    close_bracket ∷ [],
    tail,
    subst (λ x. IsLast x tail) (sym (append_assoc last blanks (close_bracket ∷ [])))
        (last_of last blanks tail is are),
  )

  module _ (other : List ℕ → Read Tree) (others_sound : ReadsTerms limits (suc levels) other) (others_halt : Halts other (IsTextOf limits (suc levels))) where
    -- a last tail that was read, and no closing bracket behind it
    unclosed : (bytes after : List ℕ) (tail : Tree) → IsTermAt limits (suc levels) bytes tail after → HaltsAt IsLast bytes (closed (Ok (tail, after)))
    unclosed bytes after tail is =
        let gap = skipped after in
        let whole : bytes ≡ (is.text ++ gap.blanks) ++ skip after =
        is.whole ∙ ap (λ x. is.text ++ x) gap.whole ∙ sym (append_assoc is.text gap.blanks (skip after)) in
        whole_halts whole (bind_halts _ (expect_behind close_bracket (is.text ++ gap.blanks) (skip after) (tail_goes is.text gap.blanks tail is.is gap.are))
        (λ x e. ok_halts))

    closed_halts : (bytes : List ℕ) → HaltsAt IsLast bytes (closed (other bytes))
    closed_halts bytes =
        bind_halts _ (map_halts (λ part t is. (close_bracket ∷ [], t, last_of part [] t is refl)) (others_halt bytes))
        (λ x e. unclosed bytes x.1 x.0 ((others_sound bytes).is x e))

    inner_halts : (bytes blanks inner : List ℕ) → bytes ≡ blanks ++ inner → AreBlanks blanks → HaltsAt IsLast (open_bracket ∷ bytes) (inner_at inner)
    inner_halts bytes blanks [] gap are = ok_halts
    inner_halts bytes blanks (b ∷ inner) gap are =
        if_halts (eqb b close_bracket)
        (λ h. let same : b ∷ inner ≡ (close_bracket ∷ []) ++ inner = ap (λ x. x ∷ inner) (eqb-true b close_bracket h) in
        unclosed (open_bracket ∷ bytes) inner Nil (record {
          text = open_bracket ∷ blanks ++ close_bracket ∷ [];
          whole = ap (λ x. open_bracket ∷ x) (with_front_blanks bytes blanks (b ∷ inner) (close_bracket ∷ []) inner gap same);
          is = ANil limits levels blanks are;
          ends = whole_by (open_bracket ∷ blanks ++ close_bracket ∷ []) inner (λ c. refl);
        }))
        (λ h. ok_halts)

    tail_halts : Halts (tail_at other) IsLast
    unfolding tail_at
    tail_halts [] = closed_halts []
    tail_halts (b ∷ bytes) =
        if_halts (eqb b open_bracket)
        (λ h. let gap = skipped bytes in byte_halts h (inner_halts bytes gap.blanks (skip bytes) gap.whole gap.are))
        (λ h. closed_halts (b ∷ bytes))

    -- what follows a head halts
    next_halts : Halts (next_at other) IsEnding
    unfolding next_at
    next_halts [] = here_halts Syntax []
    next_halts (b ∷ bytes) =
        if_halts (eqb b comma) (λ h. ok_halts) (λ h. if_halts (eqb b close_bracket) (λ i. ok_halts) (λ i. if_halts (eqb b vertical_bar)
        (λ j. let gap = skipped bytes in
        let taken : List ℕ = vertical_bar ∷ gap.blanks in
        let whole : b ∷ bytes ≡ taken ++ skip bytes = ap (λ x. x ∷ bytes) (eqb-true b vertical_bar j) ∙ ap (λ x. vertical_bar ∷ x) gap.whole in
        let zero_last = last_of (digit_zero ∷ []) [] (Integer (pos 0)) (zero_text limits levels) refl in
        whole_halts whole (behind_as taken
        (digit_zero ∷ close_bracket ∷ [], Integer (pos 0), bar gap.blanks (digit_zero ∷ close_bracket ∷ []) (Integer (pos 0)) gap.are zero_last)
        (λ text tail l. (tail, bar gap.blanks text tail gap.are l)) (tail_halts (skip bytes))))
        (λ j. here_halts Syntax (b ∷ bytes))))

    -- a head and blanks, and then what may follow them
    ended : {X : Type 0} {s : Result X Fault} (bytes r : List ℕ) (head : Tree) → IsTermAt limits levels bytes head r → HaltsAt IsEnding (skip r) s
        → HaltsAt (AreCells limits levels) bytes s
    ended bytes r head first h =
        let gap = skipped r in
        let taken = first.text ++ gap.blanks in
        let whole : bytes ≡ taken ++ skip r = first.whole ∙ ap (λ x. first.text ++ x) gap.whole ∙ sym (append_assoc first.text gap.blanks (skip r)) in
        let made : (rest : List ℕ) (tail : Tree) → IsEnding rest tail → AreCells limits levels (taken ++ rest) (Cons head tail) =
        λ rest tail e. subst (λ x. AreCells limits levels x (Cons head tail)) (sym (append_assoc first.text gap.blanks rest))
        (e head first.text gap.blanks first.is gap.are) in
        whole_halts whole
        (behind_as taken (close_bracket ∷ [], Cons head Nil, made (close_bracket ∷ []) Nil closing) (λ rest tail e. (Cons head tail, made rest tail e)) h)

    cell_halts : Halts (cell_step element other) (AreCells limits levels)
    unfolding cell_step
    cell_halts bytes =
        bind_halts _ (map_halts (λ part head is. (close_bracket ∷ [], Cons head Nil, closing head part [] is refl)) (halts bytes))
        (λ x e. ended bytes x.1 x.0 ((sound bytes).is x e) (bind_halts _ (next_halts (skip x.1)) (λ next k. ok_halts)))

    -- cells halt behind a head and a comma
    behind_head : {X : Type 0} {s : Result X Fault} (bytes r tail after : List ℕ) (head : Tree) → IsTermAt limits levels bytes head r → skip r ≡ comma ∷ tail
        → skip tail ≡ after → HaltsAt (AreCells limits levels) after s
        → HaltsAt (AreCells limits levels) bytes s
    behind_head bytes r tail after head first parted gap h =
        let behind = skipped tail in
        let taken : List ℕ = comma ∷ behind.blanks in
        let whole : skip r ≡ taken ++ after = parted ∙ ap (λ x. comma ∷ x) (behind.whole ∙ ap (λ x. behind.blanks ++ x) gap) in
        let made : (rest : List ℕ) (t : Tree) → AreCells limits levels rest t → IsEnding (taken ++ rest) t =
        λ rest t are head text blanks is one. MoreCells limits levels text blanks behind.blanks rest head t is one behind.are are in
        let again : AreCells limits levels (first.text ++ close_bracket ∷ []) (Cons head Nil) = closing head first.text [] first.is refl in
        ended bytes r head first (whole_halts whole
        (behind_as taken (first.text ++ close_bracket ∷ [], Cons head Nil, made (first.text ++ close_bracket ∷ []) (Cons head Nil) again)
        (λ rest t are. (t, made rest t are)) h))

    -- a list in brackets as the last tail, of which so many bytes were taken
    inner_last : (blanks rest : List ℕ) (t : Tree) → AreBlanks blanks → AreCells limits levels rest t
        → IsLast ((open_bracket ∷ blanks ++ rest) ++ close_bracket ∷ []) t
    inner_last blanks rest t are cells = last_of (open_bracket ∷ blanks ++ rest) [] t (AList limits levels blanks rest t are cells) refl

    inner_ending : (after blanks rest : List ℕ) (t : Tree) → AreBlanks after → AreBlanks blanks → AreCells limits levels rest t
        → IsEnding ((vertical_bar ∷ (after ++ open_bracket ∷ blanks)) ++ (rest ++ close_bracket ∷ [])) t
    inner_ending after blanks rest t one two cells =
        let same : after ++ ((open_bracket ∷ blanks ++ rest) ++ close_bracket ∷ []) ≡ (after ++ open_bracket ∷ blanks) ++ (rest ++ close_bracket ∷ []) =
        simp append_assoc in
        subst (λ x. IsEnding (vertical_bar ∷ x) t) same
        (bar after ((open_bracket ∷ blanks ++ rest) ++ close_bracket ∷ []) t one (inner_last blanks rest t two cells))

    empty_ending : (after blanks : List ℕ) → AreBlanks after → AreBlanks blanks
        → IsEnding ((vertical_bar ∷ (after ++ open_bracket ∷ blanks)) ++ close_bracket ∷ close_bracket ∷ []) Nil
    empty_ending after blanks one two =
        let same : after ++ ((open_bracket ∷ blanks ++ close_bracket ∷ []) ++ close_bracket ∷ []) ≡ (after ++ open_bracket ∷ blanks)
        ++ close_bracket ∷ close_bracket ∷ [] = simp append_assoc in
        subst (λ x. IsEnding (vertical_bar ∷ x) Nil) same (bar after ((open_bracket ∷ blanks ++ close_bracket ∷ []) ++ close_bracket ∷ []) Nil one
        (last_of (open_bracket ∷ blanks ++ close_bracket ∷ []) [] Nil (ANil limits levels blanks two) refl))

    -- cells halt behind a head, a bar and an opening bracket
    behind_bar : {X : Type 0} {s : Result X Fault} (bytes r tail bracket after : List ℕ) (head : Tree) → IsTermAt limits levels bytes head r
        → skip r ≡ vertical_bar ∷ tail → skip tail ≡ open_bracket ∷ bracket → skip bracket ≡ after
        → HaltsAt (AreCells limits levels) after s → HaltsAt (AreCells limits levels) bytes s
    behind_bar bytes r tail bracket after head first bar opens gap h =
        let behind = skipped tail in
        let blanks = skipped bracket in
        let taken : List ℕ = vertical_bar ∷ (behind.blanks ++ open_bracket ∷ blanks.blanks) in
        let whole : skip r ≡ taken ++ after =
        bar ∙ ap (λ x. vertical_bar ∷ x) (behind.whole
        ∙ ap (λ x. behind.blanks ++ x) (opens ∙ ap (λ x. open_bracket ∷ x) (blanks.whole ∙ ap (λ x. blanks.blanks ++ x) gap))
        ∙ sym (append_assoc behind.blanks (open_bracket ∷ blanks.blanks) after)) in
        ended bytes r head first (whole_halts whole
        (behind_halts taken (close_bracket ∷ close_bracket ∷ [], Nil, empty_ending behind.blanks blanks.blanks behind.are blanks.are)
        (λ rest t are. (close_bracket ∷ [], t, inner_ending behind.blanks blanks.blanks rest t behind.are blanks.are are)) h))

    -- no closing bracket stands behind a list in brackets that is the last tail
    unbarred : (bytes r tail after : List ℕ) (head t : Tree) → IsTermAt limits levels bytes head r → skip r ≡ vertical_bar ∷ tail
        → IsTermAt limits (suc levels) (skip tail) t after
        → HaltsAt (AreCells limits levels) bytes (expect close_bracket (skip after))
    unbarred bytes r tail after head t first bar_is last =
        let behind = skipped tail in
        let gap = skipped after in
        let taken : List ℕ = vertical_bar ∷ (behind.blanks ++ (last.text ++ gap.blanks)) in
        let whole : skip r ≡ taken ++ skip after =
        bar_is ∙ ap (λ x. vertical_bar ∷ x) (behind.whole ∙ ap (λ x. behind.blanks ++ x)
        (last.whole ∙ ap (λ x. last.text ++ x) gap.whole ∙ sym (append_assoc last.text gap.blanks (skip after)))
        ∙ sym (append_assoc behind.blanks (last.text ++ gap.blanks) (skip after))) in
        let goes = tail_goes last.text gap.blanks t last.is gap.are in
        let same : behind.blanks ++ ((last.text ++ gap.blanks) ++ goes.0) ≡ (behind.blanks ++ (last.text ++ gap.blanks)) ++ goes.0 =
        sym (append_assoc behind.blanks (last.text ++ gap.blanks) goes.0) in
        ended bytes r head first (whole_halts whole (expect_behind close_bracket taken (skip after) (
          goes.0,
          goes.1,
          subst (λ x. IsEnding (vertical_bar ∷ x) goes.1) same
              (bar behind.blanks ((last.text ++ gap.blanks) ++ goes.0) goes.1 behind.are goes.2),
        )))

    cells_behind : (cells : List ℕ → Read Tree) (bytes r : List ℕ) (head : Tree) (next : Next) → Halts cells (AreCells limits levels)
        → Takes (AreCells limits levels) cells
        → IsTermAt limits levels bytes head r → IsNext limits levels element sound (skip r) next
        → HaltsAt (AreCells limits levels) bytes (cells_after head cells next)
    cells_behind cells bytes r head (Head after) later read first next =
        behind_head bytes r next.0 after head first next.1 next.2 (bind_halts _ (later after) (λ x e. ok_halts))
    cells_behind cells bytes r head (Inner after) later read first next =
        bind_halts _ (behind_bar bytes r next.0 next.1 after head first next.2 next.3 next.4 (later after))
        (λ x e. let others = subst (λ y. Stands (AreCells limits levels) y x.0 x.1) (sym next.4) ((read after).is x e) in
        let last = inner_list limits levels element sound next.0 next.1 x.1 x.0 next.3 others in
        bind_halts _ (unbarred bytes r next.0 x.1 head x.0 first next.2 last) (λ rest k. ok_halts))
    cells_behind cells bytes r head (Last tail after) later read first next = ok_halts

    cells_halt : (n : ℕ) → Halts (cells_at element other n) (AreCells limits levels)
    unfolding cells_at
    cells_halt zero bytes = here_halts Syntax bytes
    cells_halt (suc n) bytes = bind_halts _ (cell_halts bytes) (λ x e.
        let p = (cell_step_taken limits levels element sound other others_sound bytes).is x e in
        cells_behind (cells_at element other n) bytes p.0 x.0 x.1 (cells_halt n) (cells_taken limits levels element sound other others_sound n) p.1 p.2)

    list_inner : (blanks inner : List ℕ) → AreBlanks blanks
        → HaltsAt (IsTextOf limits (suc levels)) ((open_bracket ∷ blanks) ++ inner) (list_at element other inner)
    unfolding list_at
    list_inner blanks [] are = at_halts Syntax (open_bracket ∷ blanks) [] (close_bracket ∷ [], Nil, ANil limits levels blanks are)
    list_inner blanks (b ∷ inner) are =
        if_halts (eqb b close_bracket) (λ h. ok_halts)
        (λ h. behind_as (open_bracket ∷ blanks) (close_bracket ∷ [], Nil, ANil limits levels blanks are)
        (λ rest t cells. (t, AList limits levels blanks rest t are cells)) (cells_halt (length (b ∷ inner)) (b ∷ inner)))

    -- Where the reading of a list or another term halts, what it took goes on to a text of one.
    pub bracketed_halts : Halts (bracketed (list_at element other) other) (IsTextOf limits (suc levels))
    bracketed_halts [] = others_halt []
    bracketed_halts (b ∷ bytes) =
        if_halts (eqb b open_bracket)
        (λ h. let gap = skipped bytes in
        whole_halts (ap (λ x. x ∷ bytes) (eqb-true b open_bracket h) ∙ ap (λ x. open_bracket ∷ x) gap.whole) (list_inner gap.blanks (skip bytes) gap.are))
        (λ h. others_halt (b ∷ bytes))
