-- Edges of a part of the keys as data, and what a map has within them.
use Rattle.std.specs.Prelude.{◌≡◌, ◌⊎◌, ℕ, ◌≤◌, Bool, true, false, not, List, [], ◌∷◌, ◌++◌, filter, length, map, Option, None, Some}
use Rattle.std.specs.Ordering.{is_lt, is_gt}
use Rattle.ca_term.specs.declared.bounds.TheConstants.{MOST_CODE_BYTES}
use Rattle.ca_model.specs.declared.edge.Edge.{Edge}
use Rattle.ca_model.specs.declared.edge.Edge.TheVariants as edge
use Rattle.ca_model.specs.StoreMap.{StoreMap, IsStoreMap, bytes_cmp}

-- no bound, a key that is taken in, or a key that is left out
pub data Bound : Type 0 where
  Unbounded : Bound
  Included : List ℕ → Bound
  Excluded : List ℕ → Bound

abbrev pub bound_of : Edge → Bound
bound_of edge.Open = Unbounded
bound_of (edge.At k) = Included k.now
bound_of (edge.Past k) = Excluded k.now

-- The bound's key may be handed to a store.
abbrev pub IsProperBound : Bound → Type 0
IsProperBound Unbounded = Unit {0}
IsProperBound (Included k) = (1 ≤ length k) × (length k ≤ MOST_CODE_BYTES)
IsProperBound (Excluded k) = (1 ≤ length k) × (length k ≤ MOST_CODE_BYTES)

-- whether a key is within a lower edge: any key, one from the bound on, or one greater than the bound
abbrev pub is_from : Bound → List ℕ → Bool
is_from Unbounded k = true
is_from (Included lo) k = not (is_lt (bytes_cmp k lo))
is_from (Excluded lo) k = is_gt (bytes_cmp k lo)

-- whether a key is within an upper edge: any key, one up to the bound, or one less than the bound
abbrev pub is_up_to : Bound → List ℕ → Bool
is_up_to Unbounded k = true
is_up_to (Included hi) k = not (is_gt (bytes_cmp k hi))
is_up_to (Excluded hi) k = is_lt (bytes_cmp k hi)

-- the pairs within a lower edge
abbrev pub from : Bound → StoreMap → StoreMap
from lo map = filter (λ p. is_from lo p.0) map

-- the pairs within an upper edge
abbrev pub up_to : Bound → StoreMap → StoreMap
up_to hi map = filter (λ p. is_up_to hi p.0) map

-- the pairs within both
abbrev pub within : Bound → Bound → StoreMap → StoreMap
within lo hi map = up_to hi (from lo map)

-- the objects of these pairs, in order
abbrev pub objects_of : StoreMap → List (List ℕ)
objects_of pairs = map (λ p. p.1) pairs

-- the first of these pairs' objects, and the last one
abbrev pub first_object : StoreMap → Option (List ℕ)
first_object [] = None
first_object (p ∷ pairs) = Some p.1

abbrev pub last_object : StoreMap → Option (List ℕ)
last_object [] = None
last_object (p ∷ []) = Some p.1
last_object (p ∷ q ∷ pairs) = last_object (q ∷ pairs)

-- An upper edge is lower than another one: it has a bound where that one has none, its key is less, or it leaves out the key that that
-- one takes in.
abbrev pub IsLower : Bound → Bound → Type 0
IsLower Unbounded hi = ⊥
IsLower (Included c) Unbounded = Unit {0}
IsLower (Included c) (Included k) = is_lt (bytes_cmp c k) ≡ true
IsLower (Included c) (Excluded k) = is_lt (bytes_cmp c k) ≡ true
IsLower (Excluded c) Unbounded = Unit {0}
IsLower (Excluded c) (Included k) = is_gt (bytes_cmp c k) ≡ false
IsLower (Excluded c) (Excluded k) = is_lt (bytes_cmp c k) ≡ true

-- The cut of a run is its upper edge, or lower.
abbrev pub IsCut : Bound → Bound → Type 0
IsCut cut hi = (cut ≡ hi) ⊎ IsLower cut hi

-- What a store map has up to a cut is the beginning of what it has up to the upper edge.
abbrev pub CutsBegin : Type 0
CutsBegin = (keypos : ℕ) (map : StoreMap) (lo cut hi : Bound) → IsStoreMap keypos map → IsCut cut hi
    → (rest : StoreMap) × (within lo hi map ≡ within lo cut map ++ rest)
