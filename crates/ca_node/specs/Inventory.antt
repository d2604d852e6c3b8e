-- What a tree has, listed: how the list changes as a base takes the place of another one, or is split.
use Rattle.std.specs.Prelude.{◌≡◌, ◌==◌, ◌⊎◌, ℕ, ◌+◌, ◌*◌, ◌≤◌, List, [], ◌∷◌, cond, length}
use Rattle.ca_node.specs.Links.{IsIn, IsLinked, IsLent}
use Rattle.ca_node.specs.Place.{Place, HasKey}
use Rattle.ca_node.specs.Shape.{Role, Base}
use Rattle.ca_node.specs.TreeView.{Note, Inventory, TreeView}

-- No two members of the list are of one row.
abbrev pub AreOnce : {A : Type 0} → (A → ℕ) → List A → Type 0
AreOnce row_of [] = Unit {0}
AreOnce row_of (x ∷ xs) = (¬ ((y : _) × IsIn y xs × (row_of y ≡ row_of x))) × AreOnce row_of xs

-- the members that aren't of this row, or of one of these rows
abbrev pub but : {A : Type 0} → (A → ℕ) → ℕ → List A → List A
but row_of row [] = []
but row_of row (x ∷ xs) = cond (row_of x == row) (but row_of row xs) (x ∷ but row_of row xs)

abbrev pub but_all : {A : Type 0} → (A → ℕ) → List ℕ → List A → List A
but_all row_of [] xs = xs
but_all row_of (row ∷ rows) xs = but row_of row (but_all row_of rows xs)

-- the row itself, and that of a base
abbrev pub row_itself : ℕ → ℕ
row_itself row = row

abbrev pub row_of_base : ℕ × Place → ℕ
row_of_base base = base.0

-- A tree with these roles in the words has this: each linked row is listed, each base with its place, and nothing else.
pub record IsInventory (words : List ℕ) (role : ℕ → Role) (i : Inventory) : Type 0 where
  pub linked : (row : ℕ) → IsLinked words row → IsIn row i.rows
  pub rows : (row : ℕ) → IsIn row i.rows → IsLinked words row
  pub rows_once : AreOnce row_itself i.rows
  pub based : (row : ℕ) (place : Place) → role row ≡ Base place → IsIn (row, place) i.bases
  pub bases : (row : ℕ) (place : Place) → IsIn (row, place) i.bases → role row ≡ Base place
  pub bases_once : AreOnce row_of_base i.bases

-- what the tree has, as a seat knows it, and how many splits that carried out, and updates
abbrev pub own_tree : TreeView → Inventory × ℕ × ℕ
own_tree u = (u.inventory, u.splits, u.renewal.count)

-- No more rows are linked than one at first, two more by each split of the seat and one more by each update, and one that is lent to an operation; and there
-- are no more bases than one at first, and one more by each split.
abbrev pub HasFewRows : TreeView → Type 0
HasFewRows u = (length u.inventory.rows ≤ 2 + 2 * u.splits + u.renewal.count) × (length u.inventory.bases ≤ u.splits + 1)

-- The seat knows the row to be linked, as it is listed, or is no pass's.
abbrev pub HasListed : TreeView → ℕ → Type 0
HasListed u row = IsIn row u.inventory.rows ⊎ (u.number ≡ 0)

-- There are so many rows at most, or one more while one is lent to an operation.
abbrev pub AreAtMost : List ℕ → ℕ → ℕ → Type 0
AreAtMost words many most = (many ≤ most + 1) × (((row : ℕ) → ¬ IsLent words row) → many ≤ most)

-- The seat knows what the tree has, and no base stands at a level greater than the number of splits that the seat carried out; so many bases more than one there
-- are at most. A split links two rows more than it unlinks, and an update one at most.
pub record OwnsTree (words : List ℕ) (role : ℕ → Role) (i : Inventory) (own : Inventory × ℕ × ℕ) : Type 0 where
  pub whole : own.0 ≡ i
  pub shallow : (row : ℕ) (place : Place) → role row ≡ Base place → place.level ≤ own.1
  pub few : length own.0.bases ≤ own.1 + 1
  pub rows : AreAtMost words (length own.0.rows) (1 + 2 * own.1 + own.2)

-- The first row is lent that is lent at all, where one pass was made at most; it is one of these, and of what comes besides no more is than is counted.
pub record IsLentFirst (words : List ℕ) (made : ℕ) (served : List ℕ) (comes count : ℕ) : Type 0 where
  pub row : ℕ
  pub is : IsIn row served
  pub one : length served + comes ≤ count + 1
  pub unlent : made ≤ 1 → (c : ℕ) → ¬ IsLent words c

-- An exchange lends these rows and links others besides the new base: all are counted then, with those that were, or but for the first one that is lent.
abbrev pub AreCounted : List ℕ → ℕ → List ℕ → ℕ → ℕ → Type 0
AreCounted words made served comes count = (length served + comes ≤ count) ⊎ IsLentFirst words made served comes count

-- The base that was shown is listed, at its place and no other, and no other one that is has a key that is led there.
pub record IsListed (i : Inventory) (note : Note) : Type 0 where
  pub row : IsIn note.row i.rows
  pub base : IsIn (note.row, note.place) i.bases
  pub one : (place : Place) → IsIn (note.row, place) i.bases → place ≡ note.place
  pub only : (row : ℕ) (place : Place) (key : List ℕ) → IsIn (row, place) i.bases → HasKey place.span key → HasKey note.place.span key → row ≡ note.row
