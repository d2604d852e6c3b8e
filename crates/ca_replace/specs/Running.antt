-- Runs of bases that are read: their objects from left to right, and what is left of them.
use Rattle.std.specs.Prelude.{◌≡◌, ℕ, ◌+◌, ◌*◌, ◌-◌, ◌<◌, ◌≤◌, ◌%◌, List, length, take, drop, slice_index, slice_index_or}
use Rattle.ca_model.specs.Edges.{Bound, objects_of, from, within}
use Rattle.ca_model.specs.StoreMap.{StoreMap}
use Rattle.ca_node.specs.Ranging as ranging
use Rattle.ca_node.specs.TreeView.{Note, TreeView, no_note}
use Rattle.ca_range.specs.declared.sought.Run.{Run}
use Rattle.ca_range.specs.Snapshots.{IsRemembered, bases_of}
use Rattle.ca_replace.specs.declared.opened.OpenRun.{OpenRun}
use Rattle.ca_replace.specs.declared.opened.Window.{Window}
use Rattle.ca_rows.specs.declared.sizes.Sizes.{Sizes}

-- what the bases of a run have together
abbrev pub all_of : Run → TreeView → StoreMap
all_of bases u = ranging.objects_of (bases_of bases u)

-- the row of the base that is so many from the last one, and 0 where there is none
abbrev pub row_in : List Note → ℕ → ℕ
row_in notes at = (slice_index_or notes at no_note).row

-- There is a base so many from the last one, and this is its row.
abbrev pub IsBaseAt : List Note → ℕ → ℕ → Type 0
IsBaseAt notes at row = (at < length notes) × (row ≡ row_in notes at)

-- what the last so many bases have together
abbrev pub last_of : ℕ → List Note → StoreMap
last_of many notes = ranging.objects_of (take many notes)

-- the objects that are left: so many, from a place of a base on, to the right
abbrev pub left_in : List Note → ℕ → ℕ → ℕ → List (List ℕ)
left_in notes at next many = objects_of (take many (drop next (last_of (at + 1) notes)))

abbrev pub left_of : TreeView → OpenRun → List (List ℕ)
left_of u run = left_in (bases_of run.bases u) run.at run.next run.left

-- The window has these rows, of the bases that were walked last.
abbrev pub HasRows : (ℕ → ℕ) → Window → Type 0
HasRows row window = (at : ℕ) → at < window.walked → window.walked ≤ at + 64 → slice_index window.rows (at % 64) ≡ row at

-- The run can be read: its bases were shown, one of them is read, and they have as many objects from there on as are left.
pub record IsOpenRun (z : Sizes) (u : TreeView) (run : OpenRun) : Type 0 where
  pub remembered : IsRemembered z u run.bases
  pub here : IsBaseAt (bases_of run.bases u) run.at run.base
  pub enough : run.left ≤ length (last_of (run.at + 1) (bases_of run.bases u)) - run.next
  pub walked : run.at < run.window.walked
  pub inside : run.window.walked ≤ length (bases_of run.bases u)
  pub window : HasRows (row_in (bases_of run.bases u)) run.window

-- Of the bases that were walked so far, this is what they have within two edges: so many objects, and the first one within the lower edge stands there.
pub record IsGathered (notes : List Note) (lo cut : Bound) (run : OpenRun) : Type 0 where
  pub here : IsBaseAt notes run.at run.base
  pub inside : run.window.walked ≤ length notes
  pub window : HasRows (row_in notes) run.window
  pub start : drop run.next (last_of (run.at + 1) notes) ≡ from lo (last_of run.window.walked notes)
  pub many : run.left ≡ length (within lo cut (last_of run.window.walked notes))
  pub most : run.left ≤ 120 * run.window.walked

-- The base that is so many from the last one has so many objects.
abbrev pub IsManyAt : List Note → ℕ → ℕ → Type 0
IsManyAt notes at many = many ≡ length (slice_index_or notes at no_note).objects

-- The next object is one of the base that is read.
abbrev pub IsNextThere : List Note → OpenRun → Type 0
IsNextThere notes run = (run.next < length (slice_index_or notes run.at no_note).objects) × (run.next < 120)
