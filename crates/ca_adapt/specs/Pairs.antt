-- The two bases under a route that are marked for an attempt to join them.
use Rattle.std.specs.Prelude.{◌≡◌, ◌≢◌, ℕ, ◌+◌, ◌≤◌, ◌∷◌, Result, Ok, Err}
use Rattle.ca_base.specs.declared.stop.Stop.{Stop}
use Rattle.ca_base.specs.Finding.{IsAtCursor, IsBaseShown}
use Rattle.ca_node.specs.declared.cursor.Cursor.{Cursor}
use Rattle.ca_node.specs.declared.link.Link.TheVariants as on
use Rattle.ca_node.specs.JoinSteps.{attempt_of}
use Rattle.ca_node.specs.Links.{IsIn}
use Rattle.ca_node.specs.Notes.{IsBaseNote}
use Rattle.ca_node.specs.Place.{IsLinkOf, Place}
use Rattle.ca_node.specs.Row.{count, IsMarkedFor}
use Rattle.ca_node.specs.Told.{IsSettled, link_word}
use Rattle.ca_node.specs.TreeView.{Inventory, Note, TreeView}
use Rattle.ca_rows.specs.declared.sizes.Sizes.{Sizes}
use Rattle.ca_adapt.specs.Trying.{IsLoneBy, other_link, route_of}
use Rattle.ca_adapt.specs.declared.joining.Attempt.{Attempt}
use Rattle.ca_adapt.specs.declared.marking.Marked.{Marked}
use Rattle.ca_adapt.specs.declared.marking.Pair.{Pair}

-- The base was shown last on the cursor's link, which is one of the attempt's route; neither a range has it nor a join, and the attempt was begun.
pub record IsMarkable (z : Sizes) (u : TreeView) (cursor : Cursor) (x : Attempt) (note : Note) : Type 0 where
  pub shown : IsBaseShown z u cursor.base note
  pub at : IsAtCursor z note cursor
  pub settled : IsSettled u note.its
  pub is_link : IsLinkOf x.route note.place.link
  pub begun : IsIn (attempt_of x.route x.number) u.ranges.joins.begun

-- Both may be marked, and hang on different links of the route. Together they are few enough for one.
pub record IsPair (z : Sizes) (u : TreeView) (pair : Pair) (note sibling : Note) : Type 0 where
  pub one : IsMarkable z u pair.one pair.attempt note
  pub other : IsMarkable z u pair.other pair.attempt sibling
  pub apart : link_word pair.one.link ≢ link_word pair.other.link
  pub sides : (pair.attempt.route ≡ route_of pair.one.link) × (pair.one.link ≢ on.Root) × (pair.other.link ≡ other_link pair.one.link)
  pub few : count note.its + count sibling.its ≤ z.leaf

-- Of what the seat knows of the tree its notes, its turns, its lost exchanges and what the tree has changed alone: so many marks were made.
pub record Marks (marks : ℕ) (u v : TreeView) : Type 0 where
  pub only : v ≡ (record u { notes = v.notes; turns = v.turns; lost = v.lost; inventory = v.inventory })
  pub passed : v.turns.passed ≡ u.turns.passed + marks
  pub helped : v.turns.helped ≡ u.turns.helped

-- This base, a copy with the attempt's mark, was shown in the place of that one.
pub record IsMarkedNote (z : Sizes) (x : Attempt) (note : Note) (row : ℕ) (copy : Note) : Type 0 where
  pub row_is : copy.row ≡ row
  pub place_is : copy.place ≡ note.place
  pub is_base : IsBaseNote z copy
  pub marked : IsMarkedFor copy.its x.route x.number
  pub count_is : count copy.its ≡ count note.its

-- The base was marked; or the try came to nothing.
abbrev pub HasMarkedOne : Sizes → Note → Attempt → Result ℕ Stop → TreeView → TreeView → Type 0
HasMarkedOne z note x (Ok row) u v = Marks 1 u v × (v.lost ≡ u.lost) × ((copy : Note) × (v.notes ≡ copy ∷ u.notes) × IsMarkedNote z x note row copy)
HasMarkedOne z note x (Err why) u v = Marks 0 u v

-- Both were; or one mark was made at most.
abbrev pub AreMarkedBoth : Sizes → Pair → Note → Note → Result Marked Stop → TreeView → TreeView → Type 0
AreMarkedBoth z pair note sibling (Ok rows) u v = Marks 2 u v × (v.lost ≡ u.lost) × ((one : Note) × (other : Note) × (v.notes ≡ other ∷ one ∷ u.notes)
    × IsMarkedNote z pair.attempt note rows.one one × IsMarkedNote z pair.attempt sibling rows.other other)
AreMarkedBoth z pair note sibling (Err why) u v = (marks : ℕ) × (marks ≤ 1) × Marks marks u v

-- The base is listed, at its place.
abbrev pub IsThere : Inventory → Note → Type 0
IsThere i note = IsIn note.row i.rows × IsIn (note.row, note.place) i.bases

-- By a try to mark the base no exchange of a link was lost, the tree has no row and no base more, and what was listed of other rows is listed still.
pub record IsLoneMark (note : Note) (u v : TreeView) : Type 0 where
  pub by : IsLoneBy 0 u v
  pub rows : (row : ℕ) → row ≢ note.row → IsIn row u.inventory.rows → IsIn row v.inventory.rows
  pub bases : (row : ℕ) (place : Place) → row ≢ note.row → IsIn (row, place) u.inventory.bases → IsIn (row, place) v.inventory.bases
