-- Another pass's edit and its bytes.
use Rattle.std.specs.Prelude.{◌≤◌, length, slice_range}
use Rattle.ca_model.specs.History.{Edit, Put, Del}
use Rattle.ca_test_store.specs.declared.foreign.ForeignEdit.{ForeignEdit}
use Rattle.ca_test_store.specs.declared.foreign.ForeignEdit.TheVariants as foreign
use Rattle.ca_test_store.specs.declared.foreign.Foreign.TheInside.{Inside}

abbrev pub edit_with : ForeignEdit → Edit
edit_with (foreign.Put o) = Put (slice_range o.object.items o.key_at o.key_end) o.object.items
edit_with (foreign.Remove key) = Del key.items

abbrev pub IsPlacedIn : ForeignEdit → Type 0
IsPlacedIn (foreign.Put o) = (o.key_at ≤ o.key_end) × (o.key_end ≤ length o.object.items)
IsPlacedIn (foreign.Remove key) = Unit {0}

abbrev pub edit_of : Inside → Edit
edit_of inside = edit_with inside.edit

abbrev pub IsPlaced : Inside → Type 0
IsPlaced inside = IsPlacedIn inside.edit
