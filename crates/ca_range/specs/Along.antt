-- Where the bases that a range marked end.
use Rattle.std.specs.Prelude.{◌≡◌, ◌<◌, ◌≤◌, ℕ, List}
use Rattle.ca_model.specs.Edges.{Excluded}
use Rattle.ca_base.specs.Finding.{IsBaseShown}
use Rattle.ca_base.specs.Putting.{first_note}
use Rattle.ca_node.specs.declared.cursor.Cursor.{Cursor}
use Rattle.ca_node.specs.Place.{HasKey}
use Rattle.ca_node.specs.Row.{mark_bound, IsMarkedBy}
use Rattle.ca_node.specs.TreeView.{TreeView}
use Rattle.ca_rows.specs.declared.sizes.Sizes.{Sizes}
use Rattle.ca_range.specs.Ahead.{GoesBeyond, IsAtLast, IsAtMarked, IsFoundOver, IsWhole}
use Rattle.ca_range.specs.Farther.{reach}
use Rattle.ca_range.specs.Marked.{second_note}
use Rattle.ca_range.specs.declared.account.Range.{Range}
use Rattle.ca_range.specs.declared.along.Reached.{Reached}
use Rattle.ca_range.specs.declared.along.Reached.TheVariants as reached

-- The base under the one cursor is the last one that the range marked, and that under the other one is the next, which was shown last.
pub record IsGap (z : Sizes) (u : TreeView) (range : Range) (left next : Cursor) : Type 0 where
  pub at : IsAtLast z u next
  pub left_shown : IsBaseShown z u left.base (second_note u.notes)
  pub left_marked : IsMarkedBy (second_note u.notes).its range.owner range.number
  pub key : List ℕ
  pub ends : (second_note u.notes).place.span.high ≡ Excluded key
  pub has : HasKey (first_note u.notes).place.span key
  pub beyond : GoesBeyond u (second_note u.notes)
  pub bound : mark_bound (second_note u.notes).its ≤ z.rows
  pub other : ¬ IsMarkedBy (first_note u.notes).its range.owner range.number

-- The range is over, and was counted where it was found unfinished; or all is marked; or there is a gap, and the base behind it goes farther than that which
-- was shown last before. No base goes less far than that one.
abbrev pub IsReached : Sizes → Range → Reached → TreeView → TreeView → Type 0
IsReached z range reached.Over u v = IsFoundOver range u v
IsReached z range (reached.Whole last) u v = IsAtMarked z v range last × IsWhole v range × (reach u ≤ reach v)
IsReached z range (reached.Before left next) u v = IsGap z v range left next × (reach u < reach v)
