-- What contracts see of a slab: a list of pairs, and room for more.
use Rattle.std.specs.Prelude.{ℕ, ◌+◌, List, [], ◌∷◌, ◌++◌, take, drop, slice_set, slice_index_or, Result, Ok, Err}
use Rattle.std.specs.List.{insert, remove}
use Rattle.ca_model.specs.StoreMap.{Pair}

pub record PairList : Type 0 where
  pub pairs : List Pair
  -- how many more pairs find room without memory
  pub spare : ℕ

abbrev pub nothing : Pair
nothing = ([], [])

-- the list with a pair at this place: in that of another one, or between two
abbrev pub placed : List Pair → Result ℕ ℕ → Pair → List Pair
placed pairs (Ok at) p = slice_set pairs at p
placed pairs (Err at) p = insert pairs at p

-- how many more pairs the list has then
abbrev pub count_placed : Result ℕ ℕ → ℕ
count_placed (Ok at) = 0
count_placed (Err at) = 1

-- the numbers, with the one behind the first `len` ones at this place among them
abbrev pub with_moved : List ℕ → ℕ → ℕ → List ℕ
with_moved order len at = insert (take len order) at (slice_index_or order len 0) ++ drop (len + 1) order

-- the numbers, with the one at this place behind the other first `len` ones
abbrev pub with_freed : List ℕ → ℕ → ℕ → List ℕ
with_freed order len at = (remove (take len order) at ++ slice_index_or (take len order) at 0 ∷ []) ++ drop len order
