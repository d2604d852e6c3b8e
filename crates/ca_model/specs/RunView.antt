-- Runs of a plain store: parts of its list.
use Rattle.std.specs.Prelude.{◌≡◌, ℕ, ◌≤◌, List, drop, length, take, slice_range, Option, None, Some}
use Rattle.ca_model.specs.StoreMap.{StoreMap}
use Rattle.ca_model.specs.Edges.{Included, Excluded, from, up_to, objects_of}
use Rattle.ca_model.specs.declared.run.Run.{Run}

-- the objects that a run has left in a list
abbrev pub left_in : StoreMap → Option Run → Option (List (List ℕ))
left_in map None = None
left_in map (Some run) = Some (objects_of (slice_range map run.next run.end))

-- The run is a part of the list.
abbrev pub IsPart : StoreMap → Option Run → Type 0
IsPart map None = Unit {0}
IsPart map (Some run) = (run.next ≤ run.end) × (run.end ≤ length map)

-- So many pairs have a less key than this one, and so many have no greater one.
pub record ArePlaces (map : StoreMap) (key : List ℕ) (less upto : ℕ) : Type 0 where
  pub rising : less ≤ upto
  pub inside : upto ≤ length map
  pub from_it : from (Included key) map ≡ drop less map
  pub past_it : from (Excluded key) map ≡ drop upto map
  pub up_to_it : up_to (Included key) map ≡ take upto map
  pub before_it : up_to (Excluded key) map ≡ take less map
