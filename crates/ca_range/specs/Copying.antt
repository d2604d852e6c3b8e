-- Copies of a base with a range's mark.
use Rattle.std.specs.Prelude.{◌≡◌, ℕ, List, length, slice_index}
use Rattle.ca_rows.specs.Layout.{row_words}
use Rattle.ca_node.specs.Row.{count, level, items, IsBaseRow, IsMarkedBy, mark_back, mark_bound, IsHeaded}
use Rattle.ca_node.specs.TreeView.{Note}
use Rattle.ca_range.specs.declared.copying.Mark.{Mark}

-- The words are those of a copy of the base with this mark.
pub record SpellsCopy (note : Note) (mark : Mark) (its : List ℕ) : Type 0 where
  pub long : length its ≡ row_words
  pub is_base : IsBaseRow its
  pub level_is : level its ≡ level note.its
  pub count_is : count its ≡ count note.its
  pub items_are : items its ≡ items note.its
  pub headed : IsHeaded its note.objects
  pub statistic_is : slice_index its 1 ≡ mark.statistic
  pub marked : IsMarkedBy its mark.range.owner mark.range.number
  pub back_is : mark_back its ≡ mark.back
  pub bound_is : mark_bound its ≡ mark.bound
