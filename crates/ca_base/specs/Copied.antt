-- Copies of a base with another mark.
use Rattle.std.specs.Prelude.{◌≡◌, ℕ, ◌+◌, ◌<◌, List, [], length, slice_index, Result, Ok, Err}
use Rattle.ca_rows.specs.Claims.{claim_of}
use Rattle.ca_rows.specs.Layout.{row_words}
use Rattle.ca_node.specs.Copies.{Copy, copied}
use Rattle.ca_node.specs.Row.{count, level, items, mark_number, mark_owner, IsBaseRow, IsHeaded}
use Rattle.ca_node.specs.Told.{MyTree}
use Rattle.ca_node.specs.TreeView.{Note, TreeView}
use Rattle.ca_base.specs.declared.stop.Stop.{Stop}
use Rattle.ca_base.specs.Putting.{first_note, stopped, words_of}

-- The words are those of a copy of the base, with these six behind the first one: its statistic, and its mark.
pub record SpellsCopy (note : Note) (words its : List ℕ) : Type 0 where
  pub long : length its ≡ row_words
  pub is_base : IsBaseRow its
  pub level_is : level its ≡ level note.its
  pub count_is : count its ≡ count note.its
  pub items_are : items its ≡ items note.its
  pub headed : IsHeaded its note.objects
  pub words_are : (k : ℕ) → k < 6 → slice_index its (1 + k) ≡ slice_index words k

-- the copy that a seat wrote to this row, of the base that it was shown last
abbrev pub copy_of : MyTree → ℕ → Copy
copy_of m row = record {
  old = first_note m.0.upper.notes;
  its = words_of (claim_of m.0.claims row);
  pass = mark_owner (words_of (claim_of m.0.claims row));
  number = mark_number (words_of (claim_of m.0.claims row));
}

-- The copy took the base's place, or it came to nothing.
abbrev pub HasPut : Copy → ℕ → Result (Unit {0}) Stop → TreeView → TreeView → Type 0
HasPut copy row (Ok x) u v = v ≡ copied [] u.ranges row copy u
HasPut copy row (Err why) u v = v ≡ stopped why u
