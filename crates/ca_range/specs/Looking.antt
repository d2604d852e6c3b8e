-- What a pass finds in the bases that it goes to for a snapshot.
use Rattle.std.specs.Prelude.{◌≡◌, ℕ, ◌+◌, ◌<◌, ◌≤◌, Bool, true, false, List, map}
use denote.Ref.{Bor}
use denote.Param.Members.{Shared}
use Rattle.ca_base.specs.Putting.{first_note}
use Rattle.ca_model.specs.Edges.{Bound, Unbounded, Included, Excluded, bound_of, from, objects_of}
use Rattle.ca_model.specs.Runs.{HasCounted}
use Rattle.ca_model.specs.StoreMap.{IsStoreMap}
use Rattle.ca_node.specs.declared.cursor.Cursor.{Cursor}
use Rattle.ca_node.specs.Place.{HasKey, Span}
use Rattle.ca_node.specs.Row.{count, pair}
use Rattle.ca_node.specs.Told.{IsKnown}
use Rattle.ca_node.specs.TreeView.{Note, TreeView}
use Rattle.ca_rows.specs.declared.sizes.Sizes.{Sizes}
use Rattle.ca_runs.specs.Runs.{BeginsBefore}
use Rattle.ca_range.specs.Ahead.{IsAtLast}
use Rattle.ca_range.specs.Counted.{IsCountOf}
use Rattle.ca_range.specs.Edged.{reaches_to}
use Rattle.ca_range.specs.declared.looking.Looked.{Looked}
use Rattle.ca_range.specs.declared.looking.Looked.TheVariants as looked
use Rattle.ca_range.specs.declared.sought.Sought.{Sought}

-- All keys from a lower edge on are from the lower bound of these on.
abbrev pub BeginsFor : Bound → Span → Type 0
BeginsFor lo span = BeginsBefore span.low lo

-- The keys with which a lower edge begins are among these.
abbrev pub HoldsEdge : Bound → Span → Type 0
HoldsEdge Unbounded span = span.low ≡ Unbounded
HoldsEdge (Included key) span = HasKey span key
HoldsEdge (Excluded key) span = HasKey span key

-- The base under the cursor was shown last. It has few enough objects for a row, and their keys ascend.
pub record IsGoneTo (z : Sizes) (u : TreeView) (cursor : Cursor) : Type 0 where
  pub at : IsAtLast z u cursor
  pub few : count (first_note u.notes).its ≤ 120
  pub ordered : IsStoreMap z.keypos (map pair (first_note u.notes).objects)

-- So it is, and all keys from a lower edge on are from its lower bound on.
pub record IsFirst (z : Sizes) (lo : Bound) (u : TreeView) (cursor : Cursor) : Type 0 where
  pub gone : IsGoneTo z u cursor
  pub before : BeginsBefore (first_note u.notes).place.span.low lo
  pub known : IsKnown z u

-- the objects of a base that are within a lower edge
abbrev pub objects_from : Bound → Note → List (List ℕ)
objects_from lo note = objects_of (from lo (map pair note.objects))

module _ {F : Type 0} (g : Shared F (Bor (List ℕ) × Unit {0}) Bool) (sought : Sought F) where
  -- So many more of a base's objects within the lower edge were counted, and there are so many now.
  abbrev pub HasAdded : ℕ → ℕ → Note → Type 0
  HasAdded counted now note = (more : ℕ) × (now ≡ counted + more) × HasCounted g sought.counts.now more (objects_from (bound_of sought.lo) note)

  -- So many more are all that were counted.
  abbrev pub HasCountedAll : ℕ → ℕ → Note → Type 0
  HasCountedAll counted now note = (more : ℕ) × (now ≡ counted + more) × IsCountOf g sought.counts.now more (objects_from (bound_of sought.lo) note)

  -- The base has all keys up to the upper edge; or it hasn't, and as many objects were counted as are wanted; or neither, and it ends at this key.
  abbrev pub HasLooked : ℕ → Looked → List ℕ → Note → Type 0
  HasLooked counted (looked.Done true) key note = reaches_to (bound_of sought.hi) note.place.span.high ≡ true
  HasLooked counted (looked.Done false) key note = (note.place.span.high ≡ Excluded key) × (reaches_to (bound_of sought.hi) note.place.span.high ≡ false)
      × (1 ≤ sought.want)
      × ((now : ℕ) × HasAdded counted now note × (sought.want ≤ now))
  HasLooked counted (looked.On now) key note = (note.place.span.high ≡ Excluded key) × HasAdded counted now note
      × (reaches_to (bound_of sought.hi) note.place.span.high ≡ false) × (1 ≤ sought.want → (now < sought.want) × HasCountedAll counted now note)

  -- The base has the keys with which the lower edge begins, but not all up to the upper one, nor as many objects as are wanted: more bases are needed.
  pub record IsNotEnough (note : Note) : Type 0 where
    pub holds : HoldsEdge (bound_of sought.lo) note.place.span
    pub counted : ℕ
    pub key : List ℕ
    pub looked : HasLooked 0 (looked.On counted) key note
