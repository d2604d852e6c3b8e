-- Where a key stands in a table, or would stand, and the lists that stand around it.
use Rattle.std.specs.Prelude.{◌≡◌, ℕ, ◌+◌, ◌<◌, ◌≤◌, List, [], ◌∷◌, length, take, drop, slice_set, slice_index_or}
use Rattle.std.specs.List.{insert, remove}
use Rattle.ca_term.specs.Tree.{Tree, Nil}
use Rattle.ca_ets.specs.declared.table.Place.{Place}
use Rattle.ca_ets.specs.declared.table.Place.TheVariants.{At, Before}
use Rattle.ca_ets.specs.OrderedMap.{below, get, above, del}

-- The object at this place has the key.
pub record IsAt (keypos : ℕ) (map : List Tree) (k : Tree) (at : ℕ) : Type 0 where
  pub in_range : at < length map
  pub less : below keypos map k ≡ take at map
  pub equal : get keypos map k ≡ slice_index_or map at Nil ∷ []
  pub greater : above keypos map k ≡ drop (at + 1) map
  pub others : del keypos map k ≡ remove map at

-- No object has the key, and an object that had it would stand before this place.
pub record IsBefore (keypos : ℕ) (map : List Tree) (k : Tree) (at : ℕ) : Type 0 where
  pub in_range : at ≤ length map
  pub less : below keypos map k ≡ take at map
  pub equal : get keypos map k ≡ []
  pub greater : above keypos map k ≡ drop at map
  pub others : del keypos map k ≡ map

abbrev pub IsPlace : ℕ → List Tree → Tree → Place → Type 0
IsPlace keypos map k (At at) = IsAt keypos map k at
IsPlace keypos map k (Before at) = IsBefore keypos map k at

-- the list with an object at this place: in the place of another one, or between two
abbrev pub placed : List Tree → Place → Tree → List Tree
placed map (At at) o = slice_set map at o
placed map (Before at) o = insert map at o

-- The place lies in a list of this length, or at its end.
abbrev pub IsInRange : ℕ → Place → Type 0
IsInRange len (At at) = at < len
IsInRange len (Before at) = at ≤ len
