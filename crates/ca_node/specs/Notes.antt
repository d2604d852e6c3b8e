-- What a note on a base of a tree says of it.
use Rattle.std.specs.Prelude.{◌≡◌, ℕ, ◌<◌, ◌≤◌, List, length}
use Rattle.ca_rows.specs.Layout.{row_words}
use Rattle.ca_rows.specs.declared.sizes.Sizes.{Sizes}
use Rattle.ca_node.specs.Links.{IsIn}
use Rattle.ca_node.specs.Marks.{IsMark}
use Rattle.ca_node.specs.Row.{IsObjectRow, IsBaseRow, count, level, items, IsHeaded}
use Rattle.ca_node.specs.TreeView.{Note}

-- The note is on a base, in a space of these sizes.
pub record IsBaseNote (z : Sizes) (note : Note) : Type 0 where
  pub some_row : 0 < note.row
  pub in_range : note.row ≤ z.rows
  pub is_base : IsBaseRow note.its
  pub long : length note.its ≡ row_words
  pub level_is : level note.its ≡ note.place.level
  pub deep : note.place.level ≤ z.levels
  pub most_levels : z.levels ≤ 4096
  pub few : count note.its ≤ z.leaf
  pub marked : IsMark note.place note.its
  -- as many objects as items, each in range, with the words of an object row
  pub named : (r : ℕ) → IsIn r (items note.its) → (0 < r) × (r ≤ z.rows)
  pub as_many : length note.objects ≡ length (items note.its)
  pub objects_long : (its : List ℕ) → IsIn its note.objects → (length its ≡ row_words) × IsObjectRow its
  pub headed : IsHeaded note.its note.objects
