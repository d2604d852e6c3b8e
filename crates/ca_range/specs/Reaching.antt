-- Rows with a key that were shown: routes, and rows that say up to where a range goes.
use Rattle.std.specs.Prelude.{◌≡◌, ◌==◌, ℕ, ◌≤◌, Bool, true, false, cond, List, [], ◌∷◌, length, slice_index}
use Rattle.std.specs.Ordering.{is_lt, is_le}
use Rattle.ca_model.specs.Edges.{Bound, Unbounded, Included, Excluded}
use Rattle.ca_model.specs.StoreMap.{bytes_cmp}
use Rattle.ca_rows.specs.Layout.{row_words}
use Rattle.ca_node.specs.Links.{IsIn}
use Rattle.ca_node.specs.Row.{count, edge_form, route_key}
use Rattle.ca_node.specs.Told.{IsShownWord}
use Rattle.ca_node.specs.Tree.{IsFixed}
use Rattle.ca_node.specs.TreeView.{Border, TreeView, no_border}
use Rattle.ca_node.specs.Layout.{to_no_end, to_key}

-- The pass was shown the row, which has a key that fits.
pub record IsKeyShown (u : TreeView) (row : ℕ) (its : List ℕ) : Type 0 where
  pub shown : (index : ℕ) → IsFixed index → IsShownWord u row index (slice_index its index)
  pub long : length its ≡ row_words
  pub short : count its ≤ 1000

-- The pass was shown the row, which says up to where a range goes.
pub record IsBorderShown (u : TreeView) (row : ℕ) (border : Border) : Type 0 where
  pub noted : IsIn border u.ranges.borders
  pub here : border.row ≡ row
  pub long : length border.its ≡ row_words

-- whether what goes up to this bound, which is that of a base, has all keys up to where the range goes, as a row with these words says
abbrev pub reaches_by : List ℕ → Bound → Bool
reaches_by its Unbounded = true
reaches_by its (Included high) = false
reaches_by its (Excluded high) = cond (edge_form its == to_no_end) false
    (cond (edge_form its == to_key) (is_lt (bytes_cmp (route_key its) high)) (is_le (bytes_cmp (route_key its) high)))

-- the first of these with this row by which that is so
abbrev pub border_for : ℕ → Bound → List Border → Border
border_for row high [] = no_border
border_for row high (x ∷ xs) = cond (x.row == row) (cond (reaches_by x.its high) x (border_for row high xs)) (border_for row high xs)
