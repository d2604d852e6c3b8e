-- A base row that gets the items of one base and then those of another one.
use Rattle.std.proofs.Common.{◌≡◌, ℕ, ◌+◌, ◌-◌, ◌<◌, ◌≤◌, List, ◌++◌, length, get_or, sym, refl, ap, ◌∙◌, subst, inl, arith, length-append}
use Rattle.std.proofs.lemmas.List.{get_or_append_left, get_or-append_right, length-map}
use Rattle.ca_node.specs.Layout.{items_word, count_limit}
use Rattle.ca_node.specs.Row.{item_words}
use Rattle.ca_node.specs.Told.{MyTree}
use Rattle.ca_node.specs.TreeView.{Note, TreeView}
use Rattle.ca_rows.specs.declared.sizes.Sizes.{Sizes}
use Rattle.ca_base.specs.declared.copying.Run.{Run}
use Rattle.ca_base.specs.declared.uniting.Part.{Part}
use Rattle.ca_base.specs.Finding.{IsBaseSeen, IsBaseShown}
use Rattle.ca_base.specs.Joined.{AreJoinable, HasPart, HasRun, words_in}
use Rattle.ca_base.specs.Prefixes.{reheaded}
use Rattle.ca_base.specs.Writing.{IsHeld, HasFilled, HasWritten, SpellsBase, IsHeadWord}
use Rattle.ca_base.proofs.Filling.{filled_as, filled_on}
use Rattle.ca_base.proofs.LastItems.{base_written}

-- A base that was shown was shown by itself.
pub shown_seen : (z : Sizes) (u : TreeView) (base : ℕ) (note : Note) → IsBaseShown z u base note → IsBaseSeen z u base note
shown_seen z u base note s = record { noted = inl s.noted; here = s.here; is_base = s.is_base }

-- Two bases can be joined still, as long as the pass learnt nothing.
pub joinable_still : (z : Sizes) (m m' : MyTree) (left right : ℕ) (first second : Note) → m' ≡ m → AreJoinable z m.0.upper left right first second
    → AreJoinable z m'.0.upper left right first second
joinable_still z m m' left right first second same = subst (λ (x : MyTree). AreJoinable z x.0.upper left right first second) (sym same)

-- all items of a base as a run
abbrev pub run_of : Part → Run
run_of part = record { base = part.base; from = 0; count = part.many }

-- They are one of a base that was shown, as long as the pass learnt nothing.
pub part_run : (z : Sizes) (u v : TreeView) (part : Part) (note : Note) → v ≡ u → HasPart z u part note → HasRun z v (run_of part) note
part_run z u v part note same has = subst (λ (w : TreeView). HasRun z w (run_of part) note) (sym same) (has.0, let m = has.1 in omega arith)

pub part_long : (z : Sizes) (u : TreeView) (part : Part) (note : Note) → HasPart z u part note → part.many ≡ length (words_in part note)
part_long z u part note has = has.1 ∙ sym (length-map (item_words note.its) (reheaded part.shift.lead part.shift.bytes))

pub parts_written : (xs ys front : List ℕ) (row at_level statistic : ℕ) (a b d e : MyTree) → IsHeld a row → at_level < count_limit → length front ≤ 32
    → length xs + length ys ≤ 120 → HasFilled row 0 11 (IsHeadWord front at_level (length xs + length ys) statistic) a b
    → HasFilled row (items_word + 0) (length xs) (λ k word. word ≡ get_or xs (0 + k) 0) b d
    → HasFilled row (items_word + length xs) (length ys) (λ k word. word ≡ get_or ys (0 + k) 0) d e
    → HasWritten row (SpellsBase front (xs ++ ys) at_level statistic) a e
parts_written xs ys front row at_level statistic a b d e held low short few head one other = let both = length-append xs ys in
    base_written row at_level (length xs + length ys) statistic front (xs ++ ys) a b e held low (sym both) short (omega arith) head
    (subst (λ (n : ℕ). HasFilled row items_word n says b e) (sym both) (filled_on row items_word (length xs) (length ys) says b d e
    (filled_as row items_word (length xs) (λ k word. word ≡ get_or xs (0 + k) 0) says b d first one)
    (filled_as row (items_word + length xs) (length ys) (λ k word. word ≡ get_or ys (0 + k) 0) (λ j. says (length xs + j)) d e second other)))
  where
    says : ℕ → ℕ → Type 0
    says k word = word ≡ get_or (xs ++ ys) k 0

    first : (k word : ℕ) → k < length xs → word ≡ get_or xs (0 + k) 0 → word ≡ get_or (xs ++ ys) k 0
    first k word l s = let there : 0 + k ≡ k = omega arith in s ∙ (ap (λ (i : ℕ). get_or xs i 0) there ∙ sym (get_or_append_left xs ys 0 k l))

    second : (k word : ℕ) → k < length ys → word ≡ get_or ys (0 + k) 0 → word ≡ get_or (xs ++ ys) (length xs + k) 0
    second k word l s = let there : 0 + k ≡ length xs + k - length xs = omega arith in s ∙ (ap (λ (i : ℕ). get_or ys i 0) there
        ∙ sym (get_or-append_right xs ys (length xs) (length xs + k) 0 refl (omega arith)))
