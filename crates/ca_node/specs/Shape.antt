-- The shape of the tree in the words, row by row: which row is a base and which is a route, where it hangs, and which keys are led to it.
use Rattle.std.specs.Prelude.{◌≡◌, ◌⊎◌, ℕ, ◌+◌, ◌*◌, ◌<◌, ◌≤◌, List, slice_index}
use mathlib.Core.Option.{Option, some, none}
use Rattle.std.specs.declared.cmp.Ordering.TheVariants.{Less}
use Rattle.ca_model.specs.Edges.{Included}
use Rattle.ca_model.specs.StoreMap.{StoreMap, bytes_cmp}
use Rattle.ca_rows.specs.declared.sizes.Sizes.{Sizes}
use Rattle.ca_rows.specs.Words.{IsWide}
use Rattle.ca_node.specs.Links.{IsIn, IsBoundOf}
use Rattle.ca_node.specs.Marks.{IsMarkIn, IsBorder}
use Rattle.ca_node.specs.Place.{Span, all_keys, left_of, right_of, HasKey, part, Place, IsLinkOf}
use Rattle.ca_node.specs.Row.{row_at, IsObjectRow, IsBaseRow, IsRouteRow, count, level, items, mark_owner, route_key, objects_in, AreHeaded}
use Rattle.ca_rows.specs.Layout.{row_words}
use Rattle.ca_node.specs.Layout.{root_word}

-- what a row is in the tree: nothing, a base, or a route with its key
pub data Role : Type 0 where
  Out : Role
  Base : Place → Role
  Route : Place → List ℕ → Role

abbrev pub place_of : Role → Option Place
place_of Out = none
place_of (Base place) = some place
place_of (Route place key) = some place

-- The word is the root link, or a link of a route.
abbrev pub IsLink : (ℕ → Role) → ℕ → Type 0
IsLink role link = (link ≡ root_word) ⊎ ((route : ℕ) × (place : Place) × (key : List ℕ) × (role route ≡ Route place key) × IsLinkOf route link)

-- The link leads these keys to a row that hangs there, at this level or a greater one.
pub record LeadsTo (words : List ℕ) (role : ℕ → Role) (link least : ℕ) (span : Span) : Type 0 where
  pub level : ℕ
  pub greater : least ≤ level
  pub hangs : place_of (role (slice_index words link)) ≡ some (record { link = link; level = level; span = span })

-- The row is a base at this place: it has no more items than a leaf may, each of them names an object row, it has no mark or that of an operation
-- that was begun, where an active range marked it a row says up to where that goes, its items have the heads of their objects' keys, and its objects are
-- what the map has of the keys that are led to it.
pub record IsBaseAt (z : Sizes) (words : List ℕ) (role : ℕ → Role) (map : StoreMap) (place : Place) (row : ℕ) : Type 0 where
  pub some_row : 0 < row
  pub in_range : row ≤ z.rows
  pub under : slice_index words place.link ≡ row
  pub is_link : IsLink role place.link
  pub deep : place.level ≤ z.levels
  pub is_base : IsBaseRow (row_at words row)
  pub level_is : level (row_at words row) ≡ place.level
  pub few : count (row_at words row) ≤ z.leaf
  pub marked : IsMarkIn words place (row_at words row)
  pub bounded : (border : ℕ) → IsBoundOf words row border → IsBorder z.rows words (mark_owner (row_at words row)) border
  pub are_objects : (r : ℕ) → IsIn r (items (row_at words row)) → (0 < r) × (r ≤ z.rows) × IsObjectRow (row_at words r)
  pub headed : AreHeaded words row
  pub has : objects_in words row ≡ part place.span map

-- The row is a route at this place, above the last level: its key is one of those that are led to it, and not the least one, the lesser ones go left and the
-- others right.
pub record IsRouteAt (z : Sizes) (words : List ℕ) (role : ℕ → Role) (place : Place) (key : List ℕ) (row : ℕ) : Type 0 where
  pub some_row : 0 < row
  pub in_range : row ≤ z.rows
  pub under : slice_index words place.link ≡ row
  pub is_link : IsLink role place.link
  pub is_route : IsRouteRow (row_at words row)
  pub level_is : level (row_at words row) ≡ place.level
  pub above : place.level < z.levels
  pub short : count (row_at words row) ≤ 1000
  pub key_is : route_key (row_at words row) ≡ key
  pub inside : HasKey place.span key
  pub rises : (low : List ℕ) → place.span.low ≡ Included low → bytes_cmp low key ≡ Less
  pub left : LeadsTo words role (row_words * row + 1) (place.level + 1) (left_of key place.span)
  pub right : LeadsTo words role (row_words * row + 2) (place.level + 1) (right_of key place.span)

abbrev pub IsSo : Sizes → List ℕ → (ℕ → Role) → StoreMap → ℕ → Role → Type 0
IsSo z words role map row Out = Unit {0}
IsSo z words role map row (Base place) = IsBaseAt z words role map place row
IsSo z words role map row (Route place key) = IsRouteAt z words role place key row

-- The rows under the root link are a tree: each is what its role says, and no key is led to two bases. The bases have this map together.
pub record IsShape (z : Sizes) (words : List ℕ) (role : ℕ → Role) (map : StoreMap) : Type 0 where
  pub wide : IsWide z.rows words
  pub top : LeadsTo words role root_word 0 all_keys
  pub each_row : (row : ℕ) → IsSo z words role map row (role row)
  pub apart : (a b : ℕ) (p q : Place) (key : List ℕ) → role a ≡ Base p → role b ≡ Base q → HasKey p.span key → HasKey q.span key → a ≡ b
