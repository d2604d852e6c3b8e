-- A short object with the place of its key, or nothing.
use Rattle.std.specs.Prelude.{◌≤◌, ℕ, List, if◌then◌else◌, length, nat_le, slice_range, take}
use Rattle.ca_model.specs.StoreMap.{Pair}
use Rattle.ca_model.specs.Slab.{nothing}
use Rattle.ca_model.specs.declared.near.TheConstants.{SHORT}
use Rattle.ca_model.specs.declared.near.Near.TheInside.{Inside}

abbrev code_in : Inside → List ℕ
code_in near = take near.len near.bytes

abbrev pub pair_of : Inside → Pair
pair_of near = (slice_range (code_in near) near.key_at near.key_end, code_in near)

abbrev pub IsPlaced : Inside → Type 0
IsPlaced near = (near.key_at ≤ near.key_end) × (near.key_end ≤ length (code_in near)) × (near.len ≤ length near.bytes)

-- the pair where its object is short, or else nothing
abbrev pub near_of : Pair → Pair
near_of p = if nat_le (length p.1) SHORT then p else nothing
