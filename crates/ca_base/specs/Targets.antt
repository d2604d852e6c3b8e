-- Bases that are replaced, and objects with their keys.
use Rattle.std.specs.Prelude.{◌≡◌, ℕ, ◌≤◌, List, length, slice_range}
use Rattle.ca_model.specs.Event.{Event}
use Rattle.ca_model.specs.History.{Edit, Put}
use Rattle.ca_model.specs.StoreMap.{IsPair}
use Rattle.ca_node.specs.declared.cursor.Cursor.{Cursor}
use Rattle.ca_node.specs.TreeView.{TreeView}
use Rattle.ca_base.specs.declared.target.Insertion.{Insertion}
use Rattle.ca_base.specs.declared.target.Keyed.{Keyed}
use Rattle.ca_base.specs.Finding.{IsAtCursor}
use Rattle.ca_base.specs.Putting.{first_note, object_at, put_event, IsShownLast}
use Rattle.ca_rows.specs.declared.sizes.Sizes.{Sizes}

-- The base under the cursor was shown last, and has so many objects, which are few enough for a row.
pub record IsTarget (z : Sizes) (u : TreeView) (cursor : Cursor) (many : ℕ) : Type 0 where
  pub leaf : z.leaf ≤ 120
  pub shown : IsShownLast z u cursor.base
  pub at : IsAtCursor z (first_note u.notes) cursor
  pub many_are : many ≡ length (first_note u.notes).objects

-- the object's key
abbrev pub key_in : Keyed → List ℕ
key_in keyed = slice_range keyed.object.now keyed.key_at keyed.key_end

-- The key stands within the object, and they make a pair.
pub record IsKeyed (keypos : ℕ) (keyed : Keyed) : Type 0 where
  pub within : (keyed.key_at ≤ keyed.key_end) × (keyed.key_end ≤ length keyed.object.now)
  pub pair_is : IsPair keypos (key_in keyed, keyed.object.now)

-- the call that puts the object into a base with these
abbrev pub event_of : Insertion → List (List ℕ) → Event
event_of insertion objects = put_event insertion.why (key_in insertion.keyed) (object_at insertion.place objects) insertion.keyed.object.now

-- its edit of the map
abbrev pub edit_of : Insertion → Edit
edit_of insertion = Put (key_in insertion.keyed) insertion.keyed.object.now
