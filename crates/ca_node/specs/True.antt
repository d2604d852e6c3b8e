-- What a seat's note on a base says is so.
use Rattle.std.specs.Prelude.{◌≡◌, ◌⊎◌, ℕ, ◌<◌, ◌≤◌, List, map}
use Rattle.ca_node.specs.Links.{IsIn, IsActive, HasBegun}
use Rattle.ca_node.specs.Row.{row_at, IsObjectRow, IsBaseRow, items, IsMarkedBy}
use Rattle.ca_node.specs.Shape.{Role, Out, Base}
use Rattle.ca_node.specs.TreeView.{Note}

-- The row has the words that the note says, and so have the object rows that it names. It hangs where it hung, or isn't in the tree any more. Where a
-- range marked it, that was begun, and while it is active the row hangs where it hung.
pub record IsTrue (rows : ℕ) (words : List ℕ) (role : ℕ → Role) (note : Note) : Type 0 where
  pub some_row : 0 < note.row
  pub in_range : note.row ≤ rows
  pub spells : row_at words note.row ≡ note.its
  pub named : IsBaseRow note.its → (r : ℕ) → IsIn r (items note.its) → (0 < r) × (r ≤ rows) × IsObjectRow (row_at words r)
  pub objects_are : IsBaseRow note.its → map (λ r. row_at words r) (items note.its) ≡ note.objects
  pub stands : (role note.row ≡ Base note.place) ⊎ (role note.row ≡ Out)
  pub marks : (pass number : ℕ) → IsMarkedBy note.its pass number → HasBegun words pass number × (IsActive words pass number → role note.row ≡ Base note.place)
