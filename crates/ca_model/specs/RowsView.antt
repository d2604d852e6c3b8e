-- Rows in slots, and those of them that are short once more.
use Rattle.std.specs.Prelude.{◌≡◌, List, map}
use Rattle.ca_model.specs.StoreMap.{Pair}
use Rattle.ca_model.specs.NearView.{near_of}
use Rattle.ca_model.specs.declared.rows.Rows.TheInside.{Inside}

abbrev pub pairs_of : Inside → List Pair
pairs_of inside = inside.rows.items

abbrev pub AreNear : Inside → Type 0
AreNear inside = inside.near.items ≡ map near_of inside.rows.items
