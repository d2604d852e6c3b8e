-- What a pass that is alone comes to by a snapshot: it loses no exchange and helps nothing, each base is marked once at most, and few rows are kept.
use Rattle.std.specs.Prelude.{◌≡◌, ◌≢◌, ℕ, ◌+◌, ◌<◌, ◌≤◌, List, [], Bool, true, length, Option, None, Result, Ok, Err}
use Rattle.ca_base.specs.Counting.{losses}
use Rattle.ca_base.specs.Crowded.{IsCrowded}
use Rattle.ca_base.specs.Putting.{first_note}
use Rattle.ca_base.specs.Taking.{lent_of}
use Rattle.ca_base.specs.declared.stop.Stop.{Stop}
use Rattle.ca_base.specs.declared.stop.Stop.TheVariants as stop
use Rattle.ca_model.specs.Edges.{Excluded}
use Rattle.ca_node.specs.Endings.{without}
use Rattle.ca_node.specs.Inventory.{AreOnce, HasFewRows, IsListed, row_itself}
use Rattle.ca_node.specs.Links.{IsIn}
use Rattle.ca_node.specs.Place.{HasKey, Place}
use Rattle.ca_node.specs.Row.{IsMarkedBy, mark, mark_back, mark_bound, mark_number, mark_owner}
use Rattle.ca_node.specs.Told.{MyTree}
use Rattle.ca_node.specs.TreeView.{Begun, Border, Marking, Note, TreeView}
use Rattle.ca_rows.specs.declared.sizes.Sizes.{Sizes}
use Rattle.ca_range.specs.Farther.{reach, reach_to}
use Rattle.ca_range.specs.Marked.{second_note}
use Rattle.ca_range.specs.declared.account.Range.{Range}
use Rattle.ca_range.specs.declared.gathering.Further.{Further}
use Rattle.ca_range.specs.declared.gathering.Further.TheVariants as further
use Rattle.ca_range.specs.declared.helped.Helped.{Helped}
use Rattle.ca_range.specs.declared.sought.Snapped.{Snapped}
use Rattle.ca_range.specs.declared.sought.Snapped.TheVariants as snapped
use Rattle.ca_range.specs.declared.using.Use.{Use}
use Rattle.ca_range.specs.declared.using.Use.TheVariants as using

-- What a pass that is alone spent from one moment to another, at which it kept so many rows. It lost no exchange and helped nothing, and passed on for each
-- base that it marked: no more than there were. It keeps one row more for each of those, and one besides, at most. The tree has no more rows and bases, and
-- the pass learnt of nothing, and found no range of another pass unfinished.
pub record GoesAlone (kept kept' : ℕ) (m m' : MyTree) : Type 0 where
  pub unlost : losses m' ≡ losses m
  pub unhelped : m'.0.upper.turns.helped ≡ m.0.upper.turns.helped
  pub passed : m.0.upper.turns.passed ≤ m'.0.upper.turns.passed
  pub few : m'.0.upper.turns.passed ≤ m.0.upper.turns.passed + length m.0.upper.inventory.bases
  pub keeps : kept' + m.0.upper.turns.passed ≤ kept + 1 + m'.0.upper.turns.passed
  pub bases : length m'.0.upper.inventory.bases ≤ length m.0.upper.inventory.bases
  pub rows : length m'.0.upper.inventory.rows ≤ length m.0.upper.inventory.rows
  pub still : m'.0.upper.seen ≡ m.0.upper.seen
  pub unmet : m'.0.upper.ranges.unfinished ≡ []

-- So a snapshot came out of a pass that is alone: it needn't be tried again, and where no row was free, all rows but eight at most are the tree's, or are kept.
-- Before it the tree had few rows and bases.
pub record SnapsAlone (z : Sizes) (come : Snapped) (kept kept' : ℕ) (m m' : MyTree) : Type 0 where
  pub goes : GoesAlone kept kept' m m'
  pub told : come ≢ snapped.Again
  pub crowded : come ≡ snapped.NoRow → z.rows ≤ length m'.0.upper.inventory.rows + kept' + 8
  pub few : HasFewRows m.0.upper

-- Nothing was lost and nothing helped, one row more at most is kept for each base that was marked, no base came, and no rows but so many that are lent.
pub record SpendsAlone (kept kept' lent : ℕ) (m m' : MyTree) : Type 0 where
  pub unlost : losses m' ≡ losses m
  pub unhelped : m'.0.upper.turns.helped ≡ m.0.upper.turns.helped
  pub passed : m.0.upper.turns.passed ≤ m'.0.upper.turns.passed
  pub keeps : kept' + m.0.upper.turns.passed ≤ kept + m'.0.upper.turns.passed
  pub bases : length m'.0.upper.inventory.bases ≤ length m.0.upper.inventory.bases
  pub rows : length m'.0.upper.inventory.rows ≤ length m.0.upper.inventory.rows + lent
  pub unmet : m'.0.upper.ranges.unfinished ≡ []

-- A base is listed that goes as far as this.
abbrev pub HasBaseTo : TreeView → ℕ → Type 0
HasBaseTo u far = (row : ℕ) × (place : Place) × IsIn (row, place) u.inventory.bases × (reach_to place.span.high ≡ far)

-- Since so many places were passed on, no more were than bases are listed that go less far than this: each goes as far as another one of these numbers.
pub record MarksOnce (before below : ℕ) (u : TreeView) : Type 0 where
  pub ends : List ℕ
  pub once : AreOnce row_itself ends
  pub each : (far : ℕ) → IsIn far ends → HasBaseTo u far × (far < below)
  pub many : u.turns.passed ≤ before + length ends

-- A base that was shown is listed.
abbrev pub IsThere : TreeView → Note → Type 0
IsThere u note = IsIn (note.row, note.place) u.inventory.bases

-- So is each row that is lent to the pass's own range.
abbrev pub AreLentThere : TreeView → Type 0
AreLentThere u = (row : ℕ) → IsIn row (lent_of u.ranges.own) → IsIn row u.inventory.rows

-- From one moment to another the range of a pass that is alone marked bases, the last of which was shown last.
pub record GathersAlone (kept kept' : ℕ) (m m' : MyTree) : Type 0 where
  pub spends : SpendsAlone kept kept' 1 m m'
  pub marked : MarksOnce m.0.upper.turns.passed (reach m'.0.upper + 1) m'.0.upper
  pub last : IsThere m'.0.upper (first_note m'.0.upper.notes)
  pub lent : AreLentThere m'.0.upper

-- No later range of the pass marked the base that was shown last. If its range that is under way did, and this one and the base that was shown before it are
-- neighbours, then it was marked behind that one, and names the same row that says up to where the range goes.
pub record IsBehindLast (u : TreeView) : Type 0 where
  pub latest : (begun : Begun) (border : Border) → u.ranges.own ≡ Marking begun border → mark (first_note u.notes).its ≡ 1
      → mark_owner (first_note u.notes).its ≡ u.number → mark_number (first_note u.notes).its ≤ begun.number
  pub next : (begun : Begun) (border : Border) (key : List ℕ) → u.ranges.own ≡ Marking begun border → IsMarkedBy (second_note u.notes).its u.number begun.number
      → (second_note u.notes).place.span.high ≡ Excluded key → HasKey (first_note u.notes).place.span key
      → IsMarkedBy (first_note u.notes).its u.number begun.number
      → (mark_back (first_note u.notes).its ≡ (second_note u.notes).row) × (mark_bound (first_note u.notes).its ≡ mark_bound (second_note u.notes).its)

-- The next base was shown behind those.
pub record GathersNext (kept kept' : ℕ) (m m' : MyTree) : Type 0 where
  pub spends : SpendsAlone kept kept' 1 m m'
  pub marked : MarksOnce m.0.upper.turns.passed (reach m'.0.upper) m'.0.upper
  pub listed : IsListed m'.0.upper.inventory (first_note m'.0.upper.notes)
  pub lent : AreLentThere m'.0.upper
  pub behind : IsBehindLast m'.0.upper

-- The range of a pass that is alone is over, or none was begun, and a snapshot comes to this.
pub record EndsAlone (z : Sizes) (come : Snapped) (kept kept' : ℕ) (m m' : MyTree) : Type 0 where
  pub spends : SpendsAlone (kept + 1) kept' 0 m m'
  pub few : m'.0.upper.turns.passed ≤ m.0.upper.turns.passed + length m.0.upper.inventory.bases
  pub told : come ≢ snapped.Again
  pub crowded : come ≡ snapped.NoRow → z.rows ≤ length m'.0.upper.inventory.rows + kept' + 8

-- Steps of a snapshot came to this.
abbrev pub ComesAlone : Sizes → Further → ℕ → ℕ → MyTree → MyTree → Type 0
ComesAlone z (further.On next) kept kept' m m' = GathersAlone kept kept' m m'
ComesAlone z (further.Ended come) kept kept' m m' = EndsAlone z come kept kept' m m'

-- A pass that is alone walked to a base, which is listed.
pub record WalksAlone (u v : TreeView) : Type 0 where
  pub tree : v.inventory ≡ u.inventory
  pub listed : IsListed u.inventory (first_note v.notes)
  pub few : HasFewRows u

-- It looked which range or attempt to join has a base: the tree is as it was, nothing was helped, and no range of another pass was found unfinished.
pub record LearnsAlone (u v : TreeView) : Type 0 where
  pub tree : v.inventory ≡ u.inventory
  pub turns : v.turns ≡ u.turns
  pub unmet : v.ranges.unfinished ≡ []

-- None has the base but the pass's own range.
abbrev pub IsFreeOfOthers : Result (Option Range) Helped → Type 0
IsFreeOfOthers r = r ≡ Ok None

abbrev pub IsUsedAlone : Use → Type 0
IsUsedAlone using.Free = Unit {0}
IsUsedAlone using.Own = Unit {0}
IsUsedAlone (using.Other range) = ⊥
IsUsedAlone (using.Gone helped) = ⊥

-- as many bases as were marked
abbrev pub as_many_marked : {T : Type 0} → Result T Stop → ℕ
as_many_marked (Ok x) = 1
as_many_marked (Err why) = 0

-- A pass that is alone tried to mark a base that is listed: no exchange was lost, one row more at most is kept for it, and the base's row isn't one that is
-- lent. Where no row was free, all rows but eight at most are the tree's, or are kept.
pub record MarksAlone {T : Type 0} (result : Result T Stop) (kept kept' : ℕ) (m m' : MyTree) : Type 0 where
  pub unlost : losses m' ≡ losses m
  pub keeps : kept' ≤ kept + as_many_marked result
  pub lent : (x : T) → result ≡ Ok x → (row : ℕ) → IsIn row (lent_of m.0.upper.ranges.own) → row ≢ (first_note m.0.upper.notes).row
  pub crowded : result ≡ Err stop.Empty → IsCrowded m'

-- The first base of a range was marked by a pass that is alone: that was won, and the old one is kept.
pub record PutsAlone (won : Bool) (kept kept' : ℕ) (m m' : MyTree) : Type 0 where
  pub won_it : won ≡ true
  pub unlost : losses m' ≡ losses m
  pub keeps : kept' ≤ kept + 1

-- The own range of a pass that is alone is over: the row that says up to where it went is the tree's no more, and is kept.
pub record IsOverAlone (kept kept' : ℕ) (u v : TreeView) : Type 0 where
  pub bases : v.inventory.bases ≡ u.inventory.bases
  pub fewer : (row : ℕ) → IsIn row (lent_of u.ranges.own) → v.inventory.rows ≡ (without row u.inventory).rows
  pub keeps : kept' ≡ kept + 1
