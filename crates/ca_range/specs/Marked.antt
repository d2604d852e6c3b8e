-- A base is marked as the next one of a range.
use Rattle.std.specs.Prelude.{◌≡◌, ℕ, ◌≤◌, List, [], ◌∷◌, Result, Ok, Err, slice_index}
use Rattle.ca_model.specs.Edges.{Excluded}
pub use Rattle.ca_base.specs.Copied.{copy_of, HasPut}
use Rattle.ca_base.specs.Putting.{first_note, stopped}
use Rattle.ca_base.specs.declared.stop.Stop.{Stop}
use Rattle.ca_node.specs.Copies.{Copy, copied, copy_note}
use Rattle.ca_node.specs.Links.{IsIn}
use Rattle.ca_node.specs.Notes.{IsBaseNote}
use Rattle.ca_node.specs.Place.{HasKey}
use Rattle.ca_node.specs.Row.{mark, mark_back, mark_bound, mark_number, mark_owner, IsMarkedBy}
use Rattle.ca_node.specs.TreeView.{Note, TreeView, no_note}
use Rattle.ca_node.specs.Layout.{marked_by_range}
use Rattle.ca_rows.specs.declared.sizes.Sizes.{Sizes}
use Rattle.ca_range.specs.declared.copying.Mark.{Mark}

-- the base that was shown before the last one
abbrev pub second_note : List Note → Note
second_note [] = no_note
second_note (note ∷ notes) = first_note notes

-- The base is the next one behind this one, which was shown, too, and which the range marked.
pub record IsNextTo (u : TreeView) (mark : Mark) (left note : Note) : Type 0 where
  pub shown : IsIn left u.notes
  pub marked : IsMarkedBy left.its mark.range.owner mark.range.number
  pub bound_is : mark.bound ≡ mark_bound left.its
  pub back_is : mark.back ≡ left.row
  pub key : List ℕ
  pub ends : left.place.span.high ≡ Excluded key
  pub has : HasKey note.place.span key

-- A range of the pass marked the base, and no later one marked a base that was shown.
abbrev pub IsOwnLast : TreeView → Note → Type 0
IsOwnLast u note = (mark note.its ≡ marked_by_range) × (mark_owner note.its ≡ u.number)
    × ((other : Note) → IsIn other u.notes → mark other.its ≡ marked_by_range → mark_owner other.its ≡ u.number → mark_number other.its ≤ mark_number note.its)

-- The range marked the base as the next one behind this row, and this row says up to where it goes.
abbrev pub IsBehindRow : Note → ℕ → ℕ → ℕ → ℕ → Type 0
IsBehindRow note pass number back bound = IsMarkedBy note.its pass number × (mark_back note.its ≡ back) × (mark_bound note.its ≡ bound)

-- Behind a base that a range of the pass marked one was shown that this range marked, or a later one, but not as the next one. No step marks a base so, but the pass
-- doesn't know that.
pub record IsAstray (u : TreeView) : Type 0 where
  pub left : Note
  pub next : Note
  pub number : ℕ
  pub left_shown : IsIn left u.notes
  pub next_shown : IsIn next u.notes
  pub left_marked : IsMarkedBy left.its u.number number
  pub key : List ℕ
  pub ends : left.place.span.high ≡ Excluded key
  pub has : HasKey next.place.span key
  pub own : (mark next.its ≡ marked_by_range) × (mark_owner next.its ≡ u.number) × (number ≤ mark_number next.its)
  pub apart : ¬ IsBehindRow next u.number number left.row (mark_bound left.its)

-- A copy of the base with this mark took its place.
pub record IsMarkedNow (z : Sizes) (note : Note) (mark : Mark) (row : ℕ) (u v : TreeView) : Type 0 where
  pub copy : Copy
  pub old_is : copy.old ≡ note
  pub is_base : IsBaseNote z (copy_note row copy)
  pub marked : IsMarkedBy copy.its mark.range.owner mark.range.number
  pub bound_is : mark_bound copy.its ≡ mark.bound
  pub back_is : mark_back copy.its ≡ mark.back
  pub statistic_is : slice_index copy.its 1 ≡ mark.statistic
  pub now : v ≡ copied [] u.ranges row copy u

-- So it was, or it came to nothing.
abbrev pub HasMarked : Sizes → Note → Mark → Result ℕ Stop → TreeView → TreeView → Type 0
HasMarked z note mark (Ok row) u v = IsMarkedNow z note mark row u v
HasMarked z note mark (Err why) u v = v ≡ stopped why u
