-- An object with the place of its key.
use Rattle.std.specs.Prelude.{◌≤◌, ℕ, List, length, slice_range, take}
use Rattle.ca_model.specs.StoreMap.{Pair}
use Rattle.ca_model.specs.declared.row.Row.TheInside.{Inside}

abbrev code_in : Inside → List ℕ
code_in row = take row.len row.bytes

abbrev pub pair_of : Inside → Pair
pair_of row = (slice_range (code_in row) row.key_at row.key_end, code_in row)

abbrev pub IsPlaced : Inside → Type 0
IsPlaced row = (row.key_at ≤ row.key_end) × (row.key_end ≤ length (code_in row)) × (row.len ≤ length row.bytes)
