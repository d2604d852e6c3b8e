-- Bases and objects that a pass was shown, and where a key stands among the objects of a base.
use Rattle.std.specs.Prelude.{◌≡◌, ◌⊎◌, ℕ, ◌+◌, ◌*◌, ◌<◌, ◌≤◌, List, [], length, map, slice_index_or, Result}
use mathlib.Core.Option.{some}
use lib.ListN.{get_elem?}
use Rattle.ca_model.specs.StoreMap.{IsStoreMap}
use Rattle.ca_model.specs.Places.{IsPlace}
use Rattle.ca_node.specs.declared.cursor.Cursor.{Cursor}
use Rattle.ca_node.specs.Links.{IsIn}
use Rattle.ca_node.specs.Row.{bytes_in, count, items, pair, code_words, head_of, prefix_length}
use Rattle.ca_node.specs.Notes.{IsBaseNote}
use Rattle.ca_node.specs.Told.{IsOfNote, link_word}
use Rattle.ca_node.specs.TreeView.{Note, TreeView}
use Rattle.ca_rows.specs.declared.sizes.Sizes.{Sizes}
use Rattle.ca_rows.specs.Layout.{row_words}

-- The pass was shown the base of the note, with its objects, or a run that it is one of.
abbrev pub WasShown : TreeView → Note → Type 0
WasShown u note = IsIn note u.notes ⊎ IsIn note u.ranges.run

-- The row was shown, with these words: it is that of such a base, or an object row that one names.
abbrev pub IsRowShown : TreeView → ℕ → List ℕ → Type 0
IsRowShown u row its = (note : Note) × WasShown u note × IsOfNote note row its

-- The pass was shown the base, with its objects, and not as one of a run alone.
pub record IsBaseShown (z : Sizes) (u : TreeView) (base : ℕ) (note : Note) : Type 0 where
  pub noted : IsIn note u.notes
  pub here : note.row ≡ base
  pub is_base : IsBaseNote z note

-- The pass was shown the base, with its objects, by itself or as one of a run.
pub record IsBaseSeen (z : Sizes) (u : TreeView) (base : ℕ) (note : Note) : Type 0 where
  pub noted : WasShown u note
  pub here : note.row ≡ base
  pub is_base : IsBaseNote z note

-- The pass was shown the base, with its objects, by itself or as one of a run. They are few enough for a row, and their keys ascend.
pub record IsReadable (z : Sizes) (u : TreeView) (base : ℕ) (note : Note) : Type 0 where
  pub noted : WasShown u note
  pub here : note.row ≡ base
  pub is_base : IsBaseNote z note
  pub few : count note.its ≤ 120
  pub ordered : IsStoreMap z.keypos (map pair note.objects)

-- The cursor tells the base that was shown, and where it hung: a link within a space of these sizes, and the level.
pub record IsAtCursor (z : Sizes) (note : Note) (cursor : Cursor) : Type 0 where
  pub base : note.row ≡ cursor.base
  pub link : note.place.link ≡ link_word cursor.link
  pub level : note.place.level ≡ cursor.level
  pub inside : link_word cursor.link < row_words * z.rows + row_words

-- The pass was shown the object row with these words.
pub record IsObjectShown (u : TreeView) (row : ℕ) (its : List ℕ) : Type 0 where
  pub shown : IsRowShown u row its
  pub long : length its ≡ row_words

-- all bytes that an object row has room for; the object's are the first of them
abbrev pub all_bytes : List ℕ → List ℕ
all_bytes its = bytes_in (code_words its)

-- The pass was shown the base, which has an object at this place.
abbrev pub HasPlace : Sizes → TreeView → ℕ → ℕ → Type 0
HasPlace z u base place = (note : Note) × IsReadable z u base note × (place < length note.objects)

-- The base that it was shown names this object row at this place, and it was shown that object, too.
abbrev pub IsItem : Sizes → TreeView → ℕ → ℕ → ℕ → Type 0
IsItem z u base place row = (note : Note) → IsReadable z u base note → place < length note.objects
    → (get_elem? (items note.its) place ≡ some row) × IsObjectShown u row (slice_index_or note.objects place [])

-- The key of the object at this place has this head behind the base's prefix.
abbrev pub HasHead : Sizes → TreeView → ℕ → ℕ → ℕ → Type 0
HasHead z u base place head = (note : Note) → IsReadable z u base note → place < length note.objects
    → head ≡ head_of (prefix_length note.its) (slice_index_or note.objects place [])

-- Among the objects of the base that it was shown this is the key's place: that of the object which has the key, or where one would stand.
abbrev pub IsPlaceIn : Sizes → TreeView → ℕ → List ℕ → Result ℕ ℕ → Type 0
IsPlaceIn z u base key place = (note : Note) → IsReadable z u base note → IsPlace (map pair note.objects) key place
