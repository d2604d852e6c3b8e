-- Along the bases that a range marked, to the right.
use Rattle.std.specs.Prelude.{◌≡◌, ℕ, ◌<◌, ◌≤◌, true, false, List, ◌∷◌}
use Rattle.ca_model.specs.Edges.{Excluded}
use Rattle.ca_base.specs.Finding.{IsAtCursor, IsBaseShown}
use Rattle.ca_base.specs.Putting.{first_note}
use Rattle.ca_node.specs.declared.cursor.Cursor.{Cursor}
use Rattle.ca_node.specs.Links.{IsIn}
use Rattle.ca_node.specs.Place.{HasKey}
use Rattle.ca_node.specs.Row.{count, mark_bound, IsMarkedBy}
use Rattle.ca_node.specs.TreeView.{Note, Over, Unfinished, Border, TreeView}
use Rattle.ca_node.specs.Walking.{IsAbove, IsHighRoute}
use Rattle.ca_rows.specs.Layout.{last_sequence}
use Rattle.ca_rows.specs.declared.sizes.Sizes.{Sizes}
use Rattle.ca_range.specs.Farther.{reach}
use Rattle.ca_range.specs.Reaching.{IsBorderShown, reaches_by}
use Rattle.ca_range.specs.Staying.{IsCounted}
use Rattle.ca_range.specs.declared.account.Range.{Range}
use Rattle.ca_range.specs.declared.ahead.Ahead.{Ahead}
use Rattle.ca_range.specs.declared.ahead.Ahead.TheVariants as ahead

-- The base under the cursor was shown last, where it hangs and where the route above it hung, and which route bounds its keys above.
pub record IsAtLast (z : Sizes) (u : TreeView) (cursor : Cursor) : Type 0 where
  pub shown : IsBaseShown z u cursor.base (first_note u.notes)
  pub at : IsAtCursor z (first_note u.notes) cursor
  pub above : IsAbove z u.ways cursor.link cursor.above
  pub high : IsHighRoute z u.ways cursor.high (first_note u.notes).place.span.high

-- So it was, and this range marked it.
pub record IsAtMarked (z : Sizes) (u : TreeView) (range : Range) (cursor : Cursor) : Type 0 where
  pub at : IsAtLast z u cursor
  pub marked : IsMarkedBy (first_note u.notes).its range.owner range.number

-- The range is known to be over.
abbrev pub IsKnownOver : TreeView → Range → Type 0
IsKnownOver u range = (x : Over) × IsIn x u.ranges.over × (x.pass ≡ range.owner) × (range.number < x.below)

-- So it is, and was counted where it was found unfinished. It marked the base that was shown last, which goes as far as the one that was shown last before.
pub record IsFoundOver (range : Range) (u v : TreeView) : Type 0 where
  pub over : IsKnownOver v range
  pub counted : IsCounted range u v
  pub marked : IsMarkedBy (first_note v.notes).its range.owner range.number
  pub far : reach u ≤ reach v

-- The base that was shown last has all keys up to where the range goes, which was found unfinished.
pub record IsWhole (u : TreeView) (range : Range) : Type 0 where
  pub met : IsIn {A = Unfinished} (record { pass = range.owner; number = range.number }) u.ranges.unfinished
  pub border : Border
  pub border_shown : IsIn border u.ranges.borders
  pub border_is : border.row ≡ mark_bound (first_note u.notes).its
  pub reaches : reaches_by border.its (first_note u.notes).place.span.high ≡ true
  pub small : range.number ≤ last_sequence

-- A row was shown that says up to where the range goes which marked this base, and by none the base has all keys up to there.
abbrev pub GoesBeyond : TreeView → Note → Type 0
GoesBeyond u note = ((x : Border) × IsBorderShown u (mark_bound note.its) x)
    × ((x : Border) → IsBorderShown u (mark_bound note.its) x → count x.its ≤ 1000 → reaches_by x.its note.place.span.high ≡ false)

-- The next base was shown behind the one that was shown last before, up to which the range goes on.
pub record IsBefore (z : Sizes) (range : Range) (next : Cursor) (u v : TreeView) : Type 0 where
  pub notes : v.notes ≡ first_note v.notes ∷ u.notes
  pub at : IsAtLast z v next
  pub key : List ℕ
  pub ends : (first_note u.notes).place.span.high ≡ Excluded key
  pub has : HasKey (first_note v.notes).place.span key
  pub beyond : GoesBeyond v (first_note u.notes)
  pub bound : mark_bound (first_note u.notes).its ≤ z.rows

-- What is ahead of a base that the range marked: nothing, as the range is over; or all is marked; or the next base, which was shown.
abbrev pub IsAhead : Sizes → Range → Cursor → Ahead → TreeView → TreeView → Type 0
IsAhead z range left ahead.Over u v = IsFoundOver range u v
IsAhead z range left ahead.Whole u v = IsAtMarked z v range left × IsWhole v range × (reach u ≤ reach v)
IsAhead z range left (ahead.Next next) u v = IsBefore z range next u v
