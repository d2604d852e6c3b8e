-- Routes that were unlinked, as seats remember them that stand there still: on each of their links is a base that was left over.
use Rattle.std.specs.Prelude.{◌≡◌, ℕ, ◌+◌, ◌*◌, ◌<◌, ◌≤◌, List, length, slice_index}
use Rattle.ca_model.specs.History.{History, state}
use Rattle.ca_model.specs.StoreMap.{StoreMap}
use Rattle.ca_rows.specs.declared.sizes.Sizes.{Sizes}
use Rattle.ca_node.specs.Attempts.{IsSecured}
use Rattle.ca_node.specs.Links.{IsIn}
use Rattle.ca_node.specs.Place.{Span, left_of, right_of, part, Place}
use Rattle.ca_node.specs.Row.{row_at, IsObjectRow, IsBaseRow, count, level, items, IsMarkedFor, route_key, objects_in, AreHeaded}
use Rattle.ca_node.specs.Shape.{Role, Out}
use Rattle.ca_node.specs.TreeView.{Way}
use Rattle.ca_rows.specs.Layout.{row_words}

-- The row is a base that hung at this place and isn't in the tree any more. It has the mark of the attempt by which its route was unlinked, and its objects
-- are what the map has of the keys that were led there.
pub record IsLeftOver (z : Sizes) (words : List ℕ) (role : ℕ → Role) (map : StoreMap) (route attempt : ℕ) (place : Place) (row : ℕ) : Type 0 where
  pub some_row : 0 < row
  pub in_range : row ≤ z.rows
  pub is_out : role row ≡ Out
  pub deep : place.level ≤ z.levels
  pub is_base : IsBaseRow (row_at words row)
  pub level_is : level (row_at words row) ≡ place.level
  pub few : count (row_at words row) ≤ z.leaf
  pub marked : IsMarkedFor (row_at words row) route attempt
  pub are_objects : (r : ℕ) → IsIn r (items (row_at words row)) → (0 < r) × (r ≤ z.rows) × IsObjectRow (row_at words r)
  pub headed : AreHeaded words row
  pub has : objects_in words row ≡ part place.span map

-- The link of the route names such a base still, to which these keys were led, at this level or a greater one.
pub record LedTo (z : Sizes) (words : List ℕ) (role : ℕ → Role) (map : StoreMap) (route attempt link least : ℕ) (span : Span) : Type 0 where
  pub level : ℕ
  pub greater : least ≤ level
  pub base : IsLeftOver z words role map route attempt (record { link = link; level = level; span = span }) (slice_index words link)

-- The route was unlinked since the seat was pinned, at this place of the history: it isn't in the tree any more, its last attempt stays secured, and its links
-- name both bases that this attempt marked, with what the state at that place has, and together no more items than a leaf may have.
pub record IsDead (z : Sizes) (words : List ℕ) (role : ℕ → Role) (since history : History) (way : Way) (at : ℕ) : Type 0 where
  pub since_pin : length since ≤ at
  pub in_history : at ≤ length history
  pub is_out : role way.row ≡ Out
  pub attempt : ℕ
  pub secured : IsSecured words way.row attempt
  pub left : LedTo z words role (state history at) way.row attempt (row_words * way.row + 1) (way.place.level + 1)
      (left_of (route_key way.its) way.place.span)
  pub right : LedTo z words role (state history at) way.row attempt (row_words * way.row + 2) (way.place.level + 1)
      (right_of (route_key way.its) way.place.span)
  pub few : count (row_at words (slice_index words (row_words * way.row + 1))) + count (row_at words (slice_index words (row_words * way.row + 2))) ≤ z.leaf
