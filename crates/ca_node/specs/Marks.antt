-- What operations leave in the words of bases and routes: marks, and how far joins are.
use Rattle.std.specs.Prelude.{◌≡◌, ◌⊎◌, ℕ, ◌+◌, ◌*◌, ◌/◌, ◌<◌, ◌≤◌, List, slice_index}
use Rattle.ca_node.specs.Attempts.{HasAttempt}
use Rattle.ca_rows.specs.declared.sizes.Sizes.{Sizes}
use Rattle.ca_node.specs.Place.{Place, IsLinkOf}
use Rattle.ca_node.specs.Row.{row_at, IsBaseRow, IsBorderRow, count, mark, mark_owner, mark_number, IsMarkedFor, IsUnmarked}
use Rattle.ca_rows.specs.Layout.{row_words}
use Rattle.ca_node.specs.Layout.{sequence_unit, marked_by_range, marked_by_join}
use Rattle.ca_rows.specs.Words.{result_of}

-- The mark is that of a range of a pass.
abbrev pub IsOfRange : List ℕ → Type 0
IsOfRange its = (mark its ≡ marked_by_range) × (0 < mark_owner its) × (mark_owner its ≤ 64)

-- The mark is that of a join of the route on whose link the base hangs.
abbrev pub IsOfJoin : Place → List ℕ → Type 0
IsOfJoin place its = (mark its ≡ marked_by_join) × IsLinkOf (mark_owner its) place.link

-- A base at this place has no mark, or that of a range, or that of a join.
abbrev pub IsMark : Place → List ℕ → Type 0
IsMark place its = IsUnmarked its ⊎ (IsOfRange its ⊎ IsOfJoin place its)

-- The operation that marked the base was begun: the range's sequence is no greater than the last one of its pass, and the join's attempt no
-- greater than the last one of its route.
abbrev pub IsMarkIn : List ℕ → Place → List ℕ → Type 0
IsMarkIn words place its = IsUnmarked its ⊎ ((IsOfRange its × (mark_number its ≤ result_of words (mark_owner its) / sequence_unit))
    ⊎ (IsOfJoin place its × HasAttempt words (mark_owner its) (mark_number its)))

-- The row says up to where a range of this pass goes.
pub record IsBorder (rows : ℕ) (words : List ℕ) (pass row : ℕ) : Type 0 where
  pub some_row : 0 < row
  pub in_range : row ≤ rows
  pub is_border : IsBorderRow (row_at words row)
  pub owner : slice_index (row_at words row) 1 ≡ pass

-- This attempt of the route marked the base that one of its links names.
abbrev pub IsMarkedUnder : List ℕ → ℕ → ℕ → ℕ → Type 0
IsMarkedUnder words route attempt link = IsBaseRow (row_at words (slice_index words link)) × IsMarkedFor (row_at words (slice_index words link)) route attempt

-- Both bases under the route have the mark of this attempt, and together no more items than a leaf may have.
pub record AreJoined (z : Sizes) (words : List ℕ) (route attempt : ℕ) : Type 0 where
  pub left : IsMarkedUnder words route attempt (row_words * route + 1)
  pub right : IsMarkedUnder words route attempt (row_words * route + 2)
  pub few : count (row_at words (slice_index words (row_words * route + 1))) + count (row_at words (slice_index words (row_words * route + 2))) ≤ z.leaf
