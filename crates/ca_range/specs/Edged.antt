-- How far a range goes, by its upper edge, and the row that says so.
use Rattle.std.specs.Prelude.{◌≡◌, ◌≤◌, Bool, true, false, List, ℕ, length, slice_index}
use Rattle.std.specs.Ordering.{is_lt, is_le}
use Rattle.ca_model.specs.Edges.{Bound, Unbounded, Included, Excluded, is_up_to}
use Rattle.ca_model.specs.StoreMap.{bytes_cmp}
use Rattle.ca_node.specs.Ranging.{top_of}
use Rattle.ca_node.specs.Row.{IsBorderRow, count, edge_form, route_key}
use Rattle.ca_rows.specs.Layout.{row_words}

-- whether what goes up to a bound, which is that of a base, has all keys up to this edge
abbrev pub reaches_to : Bound → Bound → Bool
reaches_to hi Unbounded = true
reaches_to hi (Included high) = false
reaches_to Unbounded (Excluded high) = false
reaches_to (Included key) (Excluded high) = is_lt (bytes_cmp key high)
reaches_to (Excluded key) (Excluded high) = is_le (bytes_cmp key high)

-- All keys up to the one bound are up to the other one, too.
abbrev pub EndsBefore : Bound → Bound → Type 0
EndsBefore cut high = (key : List ℕ) → is_up_to cut key ≡ true → is_up_to high key ≡ true

-- The words are those of a row that says up to where a range of this pass goes: with this edge as its form, and this key.
pub record SpellsKeyed (owner form : ℕ) (key : List ℕ) (its : List ℕ) : Type 0 where
  pub long : length its ≡ row_words
  pub is_border : IsBorderRow its
  pub owner_is : slice_index its 1 ≡ owner
  pub edge_is : edge_form its ≡ form
  pub key_is : route_key its ≡ key
  pub count_is : count its ≡ length key

-- The words are those of a row that says up to where a range of this pass goes: up to this bound.
pub record SpellsBorder (owner : ℕ) (bound : Bound) (its : List ℕ) : Type 0 where
  pub long : length its ≡ row_words
  pub is_border : IsBorderRow its
  pub owner_is : slice_index its 1 ≡ owner
  pub top_is : top_of its ≡ bound
  pub short : count its ≤ 1000
