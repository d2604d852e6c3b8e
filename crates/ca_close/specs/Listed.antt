-- What contracts see of the objects of a closed tree.
use Rattle.std.specs.Mem.Slots.{slots_items}
use Rattle.ca_model.specs.StoreMap.{StoreMap}
use Rattle.ca_close.specs.declared.objects.Objects.TheInside.{Inside}
use Rattle.ca_close.specs.Listing.{AreInside, objects_of}

abbrev pub view_of : Inside → StoreMap
view_of objects = objects_of (slots_items objects.words.closed.words) objects.rows.items

abbrev pub IsListed : Inside → Type 0
IsListed objects = AreInside (slots_items objects.words.closed.words) objects.rows.items
