-- The items of the base that was shown last, and a new base with some of them.
use Rattle.std.proofs.Common.{◌≡◌, ℕ, ◌+◌, ◌-◌, ◌<◌, ◌≤◌, List, length, take, drop, ◌++◌, get_or, sym, refl, ap, ◌∙◌, subst, inl, arith, length-take, length-drop, length-append}
use Rattle.std.proofs.lemmas.List.{get_or-take, get_or-drop, get_or_append_left, get_or-append_right, length-take-le, get_or-map}
use Rattle.ca_node.specs.Row.{count, row_in}
use Rattle.ca_node.specs.Told.{MyTree}
use Rattle.ca_node.specs.TreeView.{Note, TreeView}
use Rattle.ca_base.specs.declared.copying.Run.{Run}
use Rattle.ca_base.specs.Joined.{HasRun}
use Rattle.ca_base.specs.Putting.{IsShownLast, first_note, last_items, last_words}
use Rattle.ca_base.specs.Writing.{IsHeld, HasFilled, HasWritten, SpellsBase, HasEight, IsHeadWord, base_head}
use Rattle.ca_base.proofs.Filling.{filled_as, filled_on, rewritten_again}
use Rattle.ca_base.proofs.Spelling.{spells_base}
use Rattle.ca_rows.specs.declared.sizes.Sizes.{Sizes}
use Rattle.ca_node.specs.Layout.{items_word, count_limit}
use Rattle.ca_base.specs.Finding.{IsRowShown}

module _ (z : Sizes) (u : TreeView) (base : ℕ) (shown : IsShownLast z u base) where
  abbrev note : Note
  note = first_note u.notes

  pub last_shown : IsRowShown u base note.its
  last_shown = (note, inl shown.noted, inl (shown.here, refl))

  pub last_inside : base ≤ z.rows
  last_inside = let here = shown.here in let high = shown.is_base.in_range in omega arith

  in_count : (k : ℕ) → k < length (last_words u) → k < count note.its
  in_count k l = omega (arith, length-take (count note.its) (drop items_word note.its))

  -- The word of an item, and the row that it names.
  pub last_word : (k word : ℕ) → word ≡ get_or note.its (items_word + k) 0 → k < length (last_words u)
      → word ≡ get_or (last_words u) k 0
  last_word k word is l = is
      ∙ sym (get_or-take (count note.its) (drop items_word note.its) k 0 (in_count k l)
      ∙ get_or-drop items_word note.its k 0)

  pub last_item : (k word : ℕ) → word ≡ get_or note.its (items_word + k) 0 → k < length (last_words u)
      → row_in word ≡ get_or (last_items u) k 0
  last_item k word is l = ap row_in (last_word k word is l) ∙ sym (get_or-map row_in (last_words u) k 0 0 l)

-- A run of its items is one of a base that was shown, as long as the pass learnt nothing.
pub run_then : (z : Sizes) (u v : TreeView) (run : Run) → IsShownLast z u run.base → run.from + run.count ≤ length (last_words u) → v ≡ u
    → HasRun z v run (first_note u.notes)
run_then z u v run shown inside same = subst (λ (w : TreeView). HasRun z w run (first_note u.notes)) (sym same) (
  record { noted = shown.noted; here = shown.here; is_base = shown.is_base },
  inside,
)

-- The words before a base's items, the last ones of which have the prefix.
pub head_written : (row : ℕ) (front : List ℕ) (at_level many statistic : ℕ) (k m n : MyTree)
    → HasFilled row 0 7
    (λ i word. word ≡ get_or (base_head (length front) at_level many statistic) i 0) k m
    → HasFilled row 7 4 (HasEight front) m n
    → HasFilled row 0 11 (IsHeadWord front at_level many statistic) k n
head_written row front at_level many statistic k m n f g =
    filled_on row 0 7 4 (IsHeadWord front at_level many statistic) k m n
    (filled_as row 0 7 (λ i word. word ≡ get_or (base_head (length front) at_level many statistic) i 0)
    (IsHeadWord front at_level many statistic) k m
    (λ i word l is. record { head = λ _. is; prefix = λ h. absurd (omega arith) }) f)
    (filled_as row 7 4 (HasEight front) (λ j. IsHeadWord front at_level many statistic (7 + j)) m n
    (λ j word l is. let back : 7 + j - 7 ≡ j = omega arith in record {
      head = λ h. absurd (omega arith);
      prefix = λ _. subst (λ (i : ℕ). HasEight front i word) (sym back) is;
    }) g)

-- A row that was filled with a base's words is a base.
pub base_written : (row at_level many statistic : ℕ) (front these : List ℕ) (k m n : MyTree)
    → IsHeld k row → at_level < count_limit → many ≡ length these → length front ≤ 32
    → length these ≤ 120
    → HasFilled row 0 11 (IsHeadWord front at_level many statistic) k m
    → HasFilled row items_word (length these) (λ i word. word ≡ get_or these i 0) m n
    → HasWritten row (SpellsBase front these at_level statistic) k n
base_written row at_level many statistic front these k m n h low is short few f g =
    let one = subst (λ (i : ℕ). HasFilled row 0 11 (IsHeadWord front at_level i statistic) k m) is f h.0 h.1 h.2 in
    let two = g one.0 (one.1.long ∙ h.1) one.2.here in (
      two.0,
      spells_base front these at_level statistic h.0 one.0 two.0 h.1 low short few one.1 two.1,
      rewritten_again row one.0 two.0 k m n one.2 two.2,
    )

-- The items before a place, others, and the items from another place on.
module _ (xs these : List ℕ) (before behind : ℕ) (low : before ≤ length xs)
    (high : behind ≤ length xs) where
  abbrev pub around : List ℕ
  around = take before xs ++ (these ++ drop behind xs)

  first_are : (k : ℕ) → k < before → get_or around k 0 ≡ get_or xs k 0
  first_are k l =
      get_or_append_left (take before xs) (these ++ drop behind xs) 0 k (omega (
        arith,
        length-take-le before xs low,
      ))
      ∙ get_or-take before xs k 0 l

  middle_are : (k : ℕ) → k < length these → get_or around (before + k) 0 ≡ get_or these k 0
  middle_are k l = let there : before + k - before ≡ k = omega arith in
      get_or-append_right (take before xs) (these ++ drop behind xs) before (before + k) 0
      (length-take-le before xs low) (omega arith)
      ∙ (ap (λ (i : ℕ). get_or (these ++ drop behind xs) i 0) there
      ∙ get_or_append_left these (drop behind xs) 0 k l)

  last_are : (k : ℕ) → get_or around (before + length these + k) 0 ≡ get_or xs (behind + k) 0
  last_are k = let one : before + length these + k - before ≡ length these + k = omega arith in
      let two : length these + k - length these ≡ k = omega arith in
      get_or-append_right (take before xs) (these ++ drop behind xs) before
      (before + length these + k) 0 (length-take-le before xs low) (omega arith)
      ∙ (ap (λ (i : ℕ). get_or (these ++ drop behind xs) i 0) one
      ∙ (get_or-append_right these (drop behind xs) (length these) (length these + k) 0 refl
      (omega arith)
      ∙ (ap (λ (i : ℕ). get_or (drop behind xs) i 0) two ∙ get_or-drop behind xs k 0)))

  many_are : length around ≡ before + length these + (length xs - behind)
  many_are = omega (
    arith,
    length-append (take before xs) (these ++ drop behind xs),
    length-append these (drop behind xs),
    length-take-le before xs low,
    length-drop behind xs,
  )

  -- Where they were written in turn, they are the items of the new base.
  pub around_written : (row at_level many statistic : ℕ) (front : List ℕ) (a b d e f : MyTree)
      → IsHeld a row → at_level < count_limit → length front ≤ 32
      → many ≡ before + length these + (length xs - behind) → many ≤ 120
      → HasFilled row 0 11 (IsHeadWord front at_level many statistic) a b
      → HasFilled row (items_word + 0) before (λ k word. word ≡ get_or xs (0 + k) 0) b d
      → HasFilled row (items_word + before) (length these) (λ k word. word ≡ get_or these k 0) d e
      → HasFilled row (items_word + (before + length these)) (length xs - behind)
      (λ k word. word ≡ get_or xs (behind + k) 0) e f
      → HasWritten row (SpellsBase front around at_level statistic) a f
  around_written row at_level many statistic front a b d e f h lower short is few head one two
      three = let m = many_are in
      base_written row at_level many statistic front around a b f h lower (omega arith) short
      (omega arith) head
      (subst (λ (n : ℕ). HasFilled row items_word n says b f) (sym m)
      (filled_on row items_word (before + length these) (length xs - behind) says b e f
      (filled_on row items_word before (length these) says b d e
      (filled_as row items_word before (λ k word. word ≡ get_or xs (0 + k) 0) says b d
      (λ k word l s. first k word l s) one)
      (filled_as row (items_word + before) (length these) (λ k word. word ≡ get_or these k 0)
      (λ j. says (before + j)) d e
      (λ k word l s. s ∙ sym (middle_are k l)) two))
      (filled_as row (items_word + (before + length these)) (length xs - behind)
      (λ k word. word ≡ get_or xs (behind + k) 0)
      (λ j. says (before + length these + j)) e f (λ k word l s. s ∙ sym (last_are k)) three)))
    where
      says : ℕ → ℕ → Type 0
      says k word = word ≡ get_or around k 0

      first : (k word : ℕ) → k < before → word ≡ get_or xs (0 + k) 0 → word ≡ get_or around k 0
      first k word l s = let there : 0 + k ≡ k = omega arith in
          s ∙ (ap (λ (i : ℕ). get_or xs i 0) there ∙ sym (first_are k l))
