-- The rule of the tree, which holds between any two steps.
use Rattle.std.specs.Prelude.{◌≡◌, ◌≢◌, ◌⊎◌, ℕ, ◌+◌, ◌*◌, ◌<◌, ◌≤◌, List, [], ◌∷◌, ◌++◌, length, slice_index}
use mathlib.Core.Option.{some}
use lib.ListN.{get_elem?}
use Rattle.ca_model.specs.Event.{Entry}
use Rattle.ca_model.specs.History.{History, after, AreEdits, AreByPasses}
use Rattle.ca_model.specs.Lawful.{IsLawful}
use Rattle.ca_rows.specs.declared.sizes.Sizes.{Sizes}
use Rattle.ca_rows.specs.Opening.{AreUsable}
pub use Rattle.ca_node.specs.Hindsight.{IsDead}
use Rattle.ca_node.specs.Inventory.{IsInventory, OwnsTree, own_tree}
use Rattle.ca_node.specs.Joining.{AreJoining, IsJoining}
use Rattle.ca_node.specs.Links.{IsIn}
pub use Rattle.ca_node.specs.Lone.{IsAlive, AreLone}
use Rattle.ca_node.specs.Place.{IsLinkOf}
use Rattle.ca_node.specs.Ranging.{AreRanged}
use Rattle.ca_node.specs.Row.{IsRouteRow, route_key}
use Rattle.ca_node.specs.Shape.{Role, IsShape}
pub use Rattle.ca_node.specs.True.{IsTrue}
use Rattle.ca_node.specs.TreeView.{Note, Way, Inventory, Ended, TreeView, first_inventory}
use Rattle.ca_rows.specs.Layout.{row_words}
use Rattle.ca_node.specs.Layout.{root_word}

abbrev pub StartsWith : History → History → Type 0
StartsWith history seen = (rest : History) × (history ≡ seen ++ rest)

-- No entry of the log has a place behind this one.
abbrev pub ArePast : ℕ → List Entry → Type 0
ArePast place [] = Unit {0}
ArePast place (entry ∷ log) = (entry.1 ≤ place) × ArePast place log

-- The seat remembers the route whose link this is, or it is the root link.
abbrev pub IsLinkOfView : TreeView → ℕ → Type 0
IsLinkOfView u link = (link ≡ root_word) ⊎ ((way : Way) × IsIn way u.ways × IsLinkOf way.row link)

-- The word of a row is neither one of a route's links nor its join word.
abbrev pub IsFixed : ℕ → Type 0
IsFixed index = (index < row_words) × (index ≢ 1) × (index ≢ 2) × (index ≢ 3)

-- The route is alive, or was unlinked since the seat was pinned. It has the words that it had, but for its links and its join word.
pub record IsTrueWay (z : Sizes) (words : List ℕ) (role : ℕ → Role) (since history : History) (way : Way) : Type 0 where
  pub some_row : 0 < way.row
  pub is_route : IsRouteRow way.its
  pub in_range : way.row ≤ z.rows
  pub stands : IsAlive role way ⊎ ((at : ℕ) × IsDead z words role since history way at)
  pub spells : (index : ℕ) → IsFixed index → slice_index words (row_words * way.row + index) ≡ slice_index way.its index

-- A pass that was joined into a seat: its log is lawful, and no seat has its number any more.
pub record IsEnded (made : ℕ) (uppers : List TreeView) (history : History) (x : Ended) : Type 0 where
  pub some_number : 0 < x.number
  pub made_before : x.number ≤ made
  pub lawful : IsLawful x.number history x.log
  pub gone : (i : ℕ) (v : TreeView) → get_elem? uppers i ≡ some v → v.number ≢ x.number

-- what the seat number j knows
pub record Knows (z : Sizes) (made : ℕ) (words : List ℕ) (role : ℕ → Role) (uppers : List TreeView) (history : History) (j : ℕ) (u : TreeView) : Type 0 where
  pub made_before : u.number ≤ made
  pub alone : 0 < u.number → (i : ℕ) (v : TreeView) → get_elem? uppers i ≡ some v → v.number ≡ u.number → i ≡ j
  -- What it has seen is the beginning of the history, and its log is lawful for it. It has seen as far as its calls go.
  pub seen_first : StartsWith history u.seen
  pub since_first : StartsWith u.seen u.since
  pub lawful : IsLawful u.number history u.log
  pub past : ArePast (length u.seen) u.log
  pub notes : (note : Note) → IsIn note u.notes → IsTrue z.rows words role note
  pub links : (note : Note) → IsIn note u.notes → IsLinkOfView u note.place.link
  pub ways : (way : Way) → IsIn way u.ways → IsTrueWay z words role u.since history way
  pub way_links : (way : Way) → IsIn way u.ways → IsLinkOfView u way.place.link
  pub one_place : (a b : Way) → IsIn a u.ways → IsIn b u.ways → a.row ≡ b.row → (a.place ≡ b.place) × (route_key a.its ≡ route_key b.its)
  pub joining : IsJoining words u.notes u.ways u.ranges.joins
  pub ended : (x : Ended) → IsIn x u.ended → IsEnded made uppers history x

-- The tree under the root link has the last state of the one history.
pub record IsTree (z : Sizes) (made : ℕ) (words : List ℕ) (uppers : List TreeView) : Type 0 where
  pub usable : AreUsable z
  pub history : History
  pub edits : AreEdits z.keypos history
  pub by_passes : AreByPasses made history
  pub keypos : slice_index words 131 ≡ z.keypos
  pub leaf : slice_index words 132 ≡ z.leaf
  pub levels : slice_index words 133 ≡ z.levels
  pub role : ℕ → Role
  pub shape : IsShape z words role (after history [])
  pub ranged : AreRanged z made words role uppers history
  pub joined : AreJoining z words role
  pub lone : AreLone made words role uppers
  pub each_seat : (j : ℕ) (u : TreeView) → get_elem? uppers j ≡ some u → Knows z made words role uppers history j u
  -- What the tree has is listed. Until a pass was made that is what it has at first, and a pass that is the only one knows the list; by its splits alone
  -- bases came to stand at greater levels, and by those and its updates alone more rows came to be linked.
  pub inventory : Inventory
  pub listed : IsInventory words role inventory
  pub at_first : made ≡ 0 → inventory ≡ first_inventory
  pub only_one : (j : ℕ) (u : TreeView) → get_elem? uppers j ≡ some u → made ≤ 1 → 0 < u.number → OwnsTree words role inventory (own_tree u)
