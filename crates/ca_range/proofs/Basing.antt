-- Words of bases and of rows with a key that were shown.
use Rattle.std.proofs.Common.{◌≡◌, ℕ, ◌<◌, ◌≤◌, List, get_or, refl, inl, inr, ⊎_elim, arith}
use Rattle.ca_node.specs.Marks.{IsMark, IsOfRange, IsOfJoin}
use Rattle.ca_node.specs.Place.{Place}
use Rattle.ca_node.specs.Row.{count, mark, mark_owner, IsUnmarked}
use Rattle.ca_node.specs.Told.{IsShownWord}
use Rattle.ca_node.specs.TreeView.{Border, TreeView}
pub use Rattle.ca_base.proofs.ShownWords.{base_word, some_word}
use Rattle.ca_range.specs.Reaching.{IsBorderShown, IsKeyShown}

-- A base that a range marked has the number of a pass in its mark.
pub of_range : (place : Place) (its : List ℕ) → IsMark place its → mark its ≡ 1 → (0 < mark_owner its) × (mark_owner its ≤ 64)
of_range place its m one = ⊎_elim (λ (u : IsUnmarked its). absurd (omega arith))
    (λ o. ⊎_elim (λ (r : IsOfRange its). (r.1, r.2)) (λ (j : IsOfJoin place its). let two = j.0 in absurd (omega arith)) o) m

-- A word of a row that says up to where a range goes.
pub border_word : (u : TreeView) (row index : ℕ) (border : Border) → IsBorderShown u row border → IsShownWord u row index (get_or border.its index 0)
border_word u row index border s = (border.its, inr (inr (inl (border, s.noted, s.here, refl))), refl)

-- Its key was shown, where that isn't too long.
pub key_shown : (u : TreeView) (row : ℕ) (border : Border) → IsBorderShown u row border → count border.its ≤ 1000 → IsKeyShown u row border.its
key_shown u row border s short = record { shown = λ index fixed. border_word u row index border s; long = s.long; short = short }
