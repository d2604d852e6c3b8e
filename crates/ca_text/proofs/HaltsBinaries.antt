-- Where the reading of a binary halts, what it took begins one.
use Rattle.std.proofs.Common.{◌≡◌, ℕ, suc, eqb, List, [], ◌∷◌, ◌++◌, length, refl, sym, ap, subst, ◌∙◌, append_assoc, arith}
use Rattle.std.specs.Str.Parse.{digits_value}
use Rattle.ca_term.specs.Tree.{Tree, Binary}
use Rattle.ca_text.specs.Bytes.{close_angle, comma, double_quote, open_angle}
use Rattle.ca_text.specs.Grammar.{ABinary, AreBlanks, AreSegments, Closed, IsSegment, IsTextOf, LastSegment, Limits, MoreSegments, NoBytes, OneByte, Shown, most_byte, skip}
use Rattle.ca_text.specs.declared.fault.Why.TheVariants.{Syntax}
use Rattle.ca_text.specs.Inner.Reading.{most_shown, string_at, one_byte_at, segment_at, after_segment_at, segment_step, series_at, bytes_at, binary_at}
use Rattle.ca_text.proofs.Numbers.{skipped}
use Rattle.ca_text.proofs.Sound.{segment_taken, segment_step_taken, shown_ascii}
use Rattle.ca_text.proofs.HaltsSeries.{series_halts}
use Rattle.ca_text.proofs.Yields.{expect_yields}
use Rattle.ca_text.proofs.HaltsNumbers.{number_halts}
use Rattle.ca_text.proofs.HaltsCharacters.{characters_halts}
use Rattle.ca_text.proofs.Halts.{HaltsAt, Halts, ok_halts, here_halts, if_halts, whole_halts, byte_halts, bind_halts, map_halts, behind_as, as_halts, expect_behind, expect_halts}

one_byte_halts : Halts one_byte_at IsSegment
one_byte_halts bytes =
    bind_halts _ (as_halts (λ digits n is. (digits_value 10 digits ∷ [], OneByte digits is.0 (omega (arith, is.1, is.2)))) (number_halts most_byte bytes))
    (λ x e. ok_halts)

shown_halts : (bytes : List ℕ) → HaltsAt IsSegment (double_quote ∷ bytes) (string_at most_shown bytes)
shown_halts bytes =
    behind_as (double_quote ∷ []) (double_quote ∷ [], [], Shown (double_quote ∷ []) [] (Closed double_quote) refl)
    (λ text cs are. (cs, Shown text cs are.0 (shown_ascii cs are.1)))
    (characters_halts Syntax double_quote most_shown (length bytes) (omega arith) (λ h. absurd (omega (arith, h))) (omega arith) (λ h. absurd (omega arith))
    bytes)

segment_halts : Halts segment_at IsSegment
unfolding segment_at
segment_halts [] = one_byte_halts []
segment_halts (b ∷ bytes) = if_halts (eqb b double_quote) (λ h. byte_halts h (shown_halts bytes)) (λ h. one_byte_halts (b ∷ bytes))

-- ---- segments

abbrev IsClosing : List ℕ → ℕ → Type 0
IsClosing text n = text ≡ close_angle ∷ close_angle ∷ []

after_segment_halts : Halts after_segment_at IsClosing
unfolding after_segment_at
after_segment_halts [] = here_halts Syntax []
after_segment_halts (b ∷ bytes) =
    if_halts (eqb b comma) (λ h. ok_halts)
    (λ h. if_halts (eqb b close_angle)
    (λ i. byte_halts i (bind_halts _ (expect_behind close_angle (close_angle ∷ []) bytes (close_angle ∷ [], 0, refl)) (λ x e. ok_halts)))
    (λ i. here_halts Syntax (b ∷ bytes)))

-- a segment and what follows it
step_halts : (n : ℕ) → Halts (segment_step n) AreSegments
unfolding segment_step
step_halts n bytes =
    bind_halts _ (map_halts (λ text bs is. (close_angle ∷ close_angle ∷ [], bs, LastSegment text [] bs is refl)) (segment_halts bytes))
    (λ x e. let first = (segment_taken bytes).is x e in
    let gap = skipped x.1 in
    let taken = first.text ++ gap.blanks in
    let whole : bytes ≡ taken ++ skip x.1 = first.whole ∙ ap (λ y. first.text ++ y) gap.whole ∙ sym (append_assoc first.text gap.blanks (skip x.1)) in
    let closed : AreSegments (taken ++ close_angle ∷ close_angle ∷ []) x.0 =
    subst (λ y. AreSegments y x.0) (sym (append_assoc first.text gap.blanks (close_angle ∷ close_angle ∷ [])))
    (LastSegment first.text gap.blanks x.0 first.is gap.are) in
    whole_halts whole (behind_as taken (close_angle ∷ close_angle ∷ [], x.0, closed)
    (λ part n is. (x.0, subst (λ y. AreSegments (taken ++ y) x.0) (sym is) closed)) (bind_halts _ (after_segment_halts (skip x.1)) (λ y k. ok_halts))))

-- Where the reading of segments halts, what it took goes on to segments.
segments_halts : (n : ℕ) → Halts (series_at segment_step n) AreSegments
segments_halts = series_halts IsSegment (λ n. AreSegments) (close_angle ∷ close_angle ∷ []) (λ n. MoreSegments) segment_step segment_step_taken step_halts
    (λ n bytes bs after e text is. (text ++ ([] ++ close_angle ∷ close_angle ∷ []), bs, LastSegment text [] bs is refl))

-- ---- binaries

module _ (limits : Limits) (levels : ℕ) where
  -- what stands behind the opening brackets and these blanks
  abbrev IsInner : List ℕ → List ℕ → Tree → Type 0
  IsInner blanks text t = IsTextOf limits (suc levels) (open_angle ∷ open_angle ∷ blanks ++ text) t

  bytes_halts : (blanks : List ℕ) → AreBlanks blanks → Halts bytes_at (IsInner blanks)
  unfolding bytes_at
  bytes_halts blanks are [] = here_halts Syntax []
  bytes_halts blanks are (b ∷ bytes) =
      if_halts (eqb b close_angle)
      (λ h. byte_halts h (bind_halts _ (expect_behind close_angle (close_angle ∷ []) bytes (close_angle ∷ [], Binary [], NoBytes limits levels blanks are))
      (λ x e. ok_halts)))
      (λ h. as_halts (λ text bs is. (Binary bs, ABinary limits levels blanks text bs are is)) (segments_halts (length (b ∷ bytes)) (b ∷ bytes)))

  abbrev IsBinary : List ℕ → Tree → Type 0
  IsBinary text t = IsTextOf limits (suc levels) (open_angle ∷ text) t

  -- Where the reading of a binary halts, what it took goes on to one.
  pub binary_halts : Halts binary_at IsBinary
  binary_halts bytes = bind_halts _ (expect_halts open_angle bytes) (λ rest e.
      let gap = skipped rest in
      let whole : bytes ≡ (open_angle ∷ gap.blanks) ++ skip rest = (expect_yields open_angle bytes).is rest e ∙ ap (λ x. open_angle ∷ x) gap.whole in
      whole_halts whole
      (behind_as (open_angle ∷ gap.blanks) (close_angle ∷ close_angle ∷ [], Binary [], NoBytes limits levels gap.blanks gap.are) (λ text t is. (t, is))
      (bind_halts _ (bytes_halts gap.blanks gap.are (skip rest)) (λ x k. ok_halts))))
