-- Links of a closed tree from which its object rows are listed, and closed trees whose objects are.
use Rattle.std.specs.Prelude.{◌≡◌, ℕ, ◌+◌, ◌*◌, ◌<◌, ◌≤◌, List, length, map}
use Rattle.ca_model.specs.StoreMap.{StoreMap}
use Rattle.ca_rows.specs.declared.sizes.Sizes.{Sizes}
use Rattle.ca_rows.specs.Layout.{row_words, row_limit}
use Rattle.ca_node.specs.LastTree.{IsLastTree}
use Rattle.ca_node.specs.Links.{IsIn}
use Rattle.ca_node.specs.Place.{Span}
use Rattle.ca_node.specs.Row.{row_at, pair}
use Rattle.ca_node.specs.Shape.{Role, LeadsTo, IsShape}
use Rattle.ca_node.specs.TreeView.{TreeView}

-- the objects of these rows, with their keys
abbrev pub objects_of : List ℕ → List ℕ → StoreMap
objects_of words rows = map (λ row. pair (row_at words row)) rows

-- The words have the whole row.
pub record IsInside (words : List ℕ) (row : ℕ) : Type 0 where
  pub below : row < row_limit
  pub whole : row_words * row + row_words ≤ length words

-- They have each of these rows.
abbrev pub AreInside : List ℕ → List ℕ → Type 0
AreInside words rows = (row : ℕ) → IsIn row rows → IsInside words row

-- A row of a space of these sizes is numbered by 24 bits, and a base row has room for as many items as a leaf may have.
pub record IsFit (z : Sizes) : Type 0 where
  pub below : z.rows < row_limit
  pub few : z.leaf ≤ 120

-- The link is one of a tree, and no base is more than `deep` links from there.
pub record IsWalkable (z : Sizes) (words : List ℕ) (link deep : ℕ) : Type 0 where
  pub fit : IsFit z
  pub role : ℕ → Role
  pub has : StoreMap
  pub shape : IsShape z words role has
  pub least : ℕ
  pub span : Span
  pub leads : LeadsTo words role link least span
  pub enough : z.levels < leads.level + deep

-- The words are those of a closed tree with so many levels, and a list with this room has room for as many as there are rows.
pub record IsListable (words : List ℕ) (levels room : ℕ) : Type 0 where
  pub z : Sizes
  pub made : ℕ
  pub passes : List TreeView
  pub last : IsLastTree z made passes words
  pub fit : IsFit z
  pub levels_are : z.levels ≡ levels
  pub enough : z.rows ≤ room
