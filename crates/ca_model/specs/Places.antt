-- Where a key stands in a store map, or would stand.
use Rattle.std.proofs.Common.{◌≡◌, ℕ, ◌+◌, ◌≤◌, ◌<◌, List, [], ◌∷◌, length, take, drop, get_or, Ok, Err, Result}
use Rattle.ca_model.specs.StoreMap.{StoreMap, below, get, above}
use Rattle.ca_model.specs.Slab.{nothing}

-- The pair at this place has the key.
pub record IsAt (map : StoreMap) (k : List ℕ) (at : ℕ) : Type 0 where
  pub in_range : at < length map
  pub less : below map k ≡ take at map
  pub equal : get map k ≡ get_or map at nothing ∷ []
  pub greater : above map k ≡ drop (at + 1) map

-- No pair has the key, and one that had it would stand before this place.
pub record IsBefore (map : StoreMap) (k : List ℕ) (at : ℕ) : Type 0 where
  pub in_range : at ≤ length map
  pub less : below map k ≡ take at map
  pub equal : get map k ≡ []
  pub greater : above map k ≡ drop at map

-- A binary search for the key says so.
abbrev pub IsPlace : StoreMap → List ℕ → Result ℕ ℕ → Type 0
IsPlace map k (Ok at) = IsAt map k at
IsPlace map k (Err at) = IsBefore map k at
