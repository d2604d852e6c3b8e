-- An object's code with the place of its key, as a pair of the key and the object.
use Rattle.std.specs.Prelude.{◌<◌, ◌≤◌, length, slice_range}
use Rattle.ca_model.specs.StoreMap.{Pair, IsPair}
use Rattle.ca_bench.specs.declared.coded.Coded.TheInside.{Inside}

abbrev pub pair_of : Inside → Pair
pair_of coded = (slice_range coded.code.items coded.key_at coded.key_end, coded.code.items)

-- The first element of the object is its key.
abbrev pub IsPlaced : Inside → Type 0
IsPlaced coded = (coded.key_at < coded.key_end) × (coded.key_end ≤ length coded.code.items) × IsPair 1 (pair_of coded)
