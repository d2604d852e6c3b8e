-- A list of pairs kept in slots.
use Rattle.std.specs.Prelude.{◌≡◌, ℕ, ◌-◌, ◌≤◌, List, length, take, map, nat_eq, slice_index_or}
use Rattle.std.specs.List.{count_by}
use Rattle.ca_model.specs.StoreMap.{Pair}
use Rattle.ca_model.specs.Slab.{PairList, nothing}
use Rattle.ca_model.specs.declared.slab.Slab.TheInside.{Inside}

-- the pairs in these slots
abbrev pub pairs_in : List Pair → List ℕ → List Pair
pairs_in rows slots = map (λ slot. slice_index_or rows slot nothing) slots

-- how often a number stands in a list
abbrev pub times : ℕ → List ℕ → ℕ
times n numbers = count_by (λ m. nat_eq m n) numbers

-- the list that the first `len` numbers of an order give, and room for as many more as there are other numbers
abbrev pub list_in : List Pair → List ℕ → ℕ → PairList
list_in rows order len = record { pairs = pairs_in rows (take len order); spare = length order - len }

-- The order holds numbers of rows alone, and none twice.
pub record AreSlots (rows : List Pair) (order : List ℕ) (len : ℕ) : Type 0 where
  pub within : len ≤ length order
  pub once : (slot : ℕ) → times slot order ≤ 1
  pub slots : (slot : ℕ) → length rows ≤ slot → times slot order ≡ 0

abbrev pub list_of : Inside → PairList
list_of slab = list_in slab.rows slab.order.items slab.len

abbrev pub IsKept : Inside → Type 0
IsKept slab = AreSlots slab.rows slab.order.items slab.len
