-- The halves of a base, as they are written: some of its items, from a place on.
use Rattle.std.proofs.Common.{◌≡◌, ℕ, ◌+◌, ◌<◌, ◌≤◌, List, length, take, drop, get_or, sym, ◌∙◌, subst, arith, length-drop}
use Rattle.std.proofs.lemmas.List.{get_or-take, get_or-drop, length-take-le}
use Rattle.ca_node.specs.Told.{MyTree}
use Rattle.ca_base.specs.Writing.{IsHeld, HasFilled, HasWritten, SpellsBase, IsHeadWord}
use Rattle.ca_base.proofs.Filling.{filled_as}
use Rattle.ca_base.proofs.LastItems.{base_written}
use Rattle.ca_node.specs.Layout.{items_word, count_limit}

-- So many are there.
pub half_long : (xs : List ℕ) (from count : ℕ) → from + count ≤ length xs
    → length (take count (drop from xs)) ≡ count
half_long xs from count l = length-take-le count (drop from xs) (omega (arith, length-drop from xs))

-- A row that got them is such a base.
pub half_written : (row at_level statistic from count : ℕ) (front xs : List ℕ) (k m n : MyTree)
    → IsHeld k row → at_level < count_limit → length front ≤ 32 → from + count ≤ length xs
    → count ≤ 120 → HasFilled row 0 11 (IsHeadWord front at_level count statistic) k m
    → HasFilled row items_word count (λ i word. word ≡ get_or xs (from + i) 0) m n
    → HasWritten row (SpellsBase front (take count (drop from xs)) at_level statistic) k n
half_written row at_level statistic from count front xs k m n h low short inside few head some =
    let these = take count (drop from xs) in
    let long = half_long xs from count inside in
    base_written row at_level count statistic front these k m n h low (sym long) short
    (omega arith) head
    (subst (λ (c : ℕ). HasFilled row items_word c (λ i word. word ≡ get_or these i 0) m n) (sym long)
    (filled_as row items_word count (λ i word. word ≡ get_or xs (from + i) 0)
    (λ i word. word ≡ get_or these i 0) m n
    (λ i word l s. s ∙ sym (get_or-take count (drop from xs) i 0 l ∙ get_or-drop from xs i 0))
    some))
