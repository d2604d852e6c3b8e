-- Calls that read what is within edges, as events.
use Rattle.std.specs.Prelude.{◌≡◌, ℕ, ◌<◌, ◌≤◌, Bool, true, false, cond, List, [], None, Some, length}
use denote.Ref.{Bor}
use denote.Param.Members.{Shared}
use Rattle.ca_base.specs.Progress.{IsFurther}
use Rattle.ca_base.specs.Putting.{first_note}
use Rattle.ca_model.specs.Edges.{Bound, Excluded, Included, Unbounded, bound_of, last_object, objects_of, up_to, within}
use Rattle.ca_model.specs.Event.{Event, Above, Below, Range}
use Rattle.ca_model.specs.History.{state}
use Rattle.ca_model.specs.Runs.{Reaches}
use Rattle.ca_node.specs.Told.{MyTree, IsKnown}
use Rattle.ca_model.specs.declared.edge.Edge.{Edge}
use Rattle.ca_model.specs.declared.edge.Edge.TheVariants as edge
use Rattle.ca_node.specs.declared.cursor.Cursor.{Cursor}
use Rattle.ca_node.specs.declared.cursor.Spot.{Spot}
use Rattle.ca_node.specs.declared.cursor.Spot.TheVariants as spot
use Rattle.ca_node.specs.TreeView.{Note, TreeView}
use Rattle.ca_node.specs.Walking.{IsWalked}
use Rattle.ca_range.specs.Edged.{EndsBefore, reaches_to}
use Rattle.ca_range.specs.Looking.{HoldsEdge, objects_from}
use Rattle.ca_range.specs.Snapshots.{IsRemembered, bases_of}
use Rattle.ca_range.specs.declared.sought.Run.{Run}
use Rattle.ca_range.specs.declared.sought.Sought.{Sought}
use Rattle.ca_replace.specs.Acts.{acts_of}
use Rattle.ca_replace.specs.Aside.{HasGoneLeft}
use Rattle.ca_replace.specs.Running.{IsOpenRun, all_of, left_of}
use Rattle.ca_replace.specs.declared.opened.OpenRun.{OpenRun}
use Rattle.ca_rows.specs.declared.sizes.Sizes.{Sizes}
use Rattle.ca_runs.specs.Runs.{BeginsBefore}

-- where a run is cut: at the upper edge, where it is whole, and else where its last base ends
abbrev pub cut_of : Run → TreeView → Bound → Bound
cut_of run u hi = cond run.whole hi (first_note (bases_of run u)).place.span.high

-- the call that opens the run, given both edges
abbrev pub range_event : Run → TreeView → Bound → Bound → Event
range_event run u lo hi = Range lo hi (cut_of run u hi) (objects_of (within lo (cut_of run u hi) (all_of run u)))

-- the read of the first object within a lower edge, and of the last one within an upper edge, given whether an object was found, and which
abbrev pub above_event : Bound → Bool → List ℕ → Event
above_event lo true object = Above lo (Some object)
above_event lo false object = Above lo None

abbrev pub below_event : Bound → Bool → List ℕ → Event
below_event hi true object = Below hi (Some object)
below_event hi false object = Below hi None

-- So such a call found the object, or none, and there are no bytes.
abbrev pub FindsAbove : Bound → Bool → List ℕ → Event → Type 0
FindsAbove lo true object event = event ≡ Above lo (Some object)
FindsAbove lo false object event = (event ≡ Above lo None) × (object ≡ [])

abbrev pub FindsBelow : Bound → Bool → List ℕ → Event → Type 0
FindsBelow hi true object event = event ≡ Below hi (Some object)
FindsBelow hi false object event = (event ≡ Below hi None) × (object ≡ [])

module _ {F : Type 0} (g : Shared F (Bor (List ℕ) × Unit {0}) Bool) (sought : Sought F) where
  -- The call opened this run, which reaches the upper edge or doesn't.
  pub record HasOpened (z : Sizes) (whole : Bool) (run : OpenRun) (u : TreeView) (event : Event) : Type 0 where
    pub opened : IsOpenRun z u run
    pub cut : Bound
    pub event_is : event ≡ Range (bound_of sought.lo) (bound_of sought.hi) cut (left_of u run)
    pub reaches : Reaches g sought.counts.now (bound_of sought.hi) cut sought.want (left_of u run) whole

-- The base has the keys with which the lower edge begins, but not all up to the upper one: it ends at a key below that.
pub record EndsTooSoon (lo hi : Bound) (note : Note) : Type 0 where
  pub holds : HoldsEdge lo note.place.span
  pub key : List ℕ
  pub ends : note.place.span.high ≡ Excluded key
  pub short : reaches_to hi note.place.span.high ≡ false

-- Of such a base a read needs more: the one of a first object, where no object of the base is within the lower edge; the one of a last object, from where it
-- looked last.
abbrev pub NeedsAbove : Bound → Note → Type 0
NeedsAbove lo note = EndsTooSoon lo Unbounded note × (objects_from lo note ≡ [])

abbrev pub NeedsBelow : Bound → Note → Type 0
NeedsBelow hi note = (lo : Bound) × EndsTooSoon lo hi note

-- The bases of a run have what a state since the pin has up to an upper edge, from a lower edge on, or from before it.
pub record HasAllUpTo (lo hi : Bound) (z : Sizes) (u : TreeView) (run : Run) : Type 0 where
  pub remembered : IsRemembered z u run
  pub at : ℕ
  pub later : length u.since ≤ at
  pub seen : at ≤ length u.seen
  pub low : Bound
  pub before : BeginsBefore low lo
  pub shown : all_of run u ≡ within low (first_note (bases_of run u)).place.span.high (state u.seen at)
  pub ends : EndsBefore hi (first_note (bases_of run u)).place.span.high
  pub known : IsKnown z u

-- It has seen more of the history, at most, and answered no call and was refused none, nor began an attempt to join or split a base. Behind that its history is
-- known, and it has been pinned no less long.
pub record HasLearnt (z : Sizes) (u v : TreeView) : Type 0 where
  pub further : IsFurther u v
  pub known : IsKnown z v
  pub since : v.since ≡ u.since
  pub acts : acts_of v ≡ acts_of u

-- which base has the keys right up to an upper edge
abbrev pub spot_at : Edge → Spot
spot_at edge.Open = spot.Last
spot_at (edge.At key) = spot.At key
spot_at (edge.Past key) = spot.Below key

-- A read of the last object within an upper edge walked to the base that has the keys right up to it, and looked to the left up to a base with an object, which
-- begins at this key. From there up to the edge the bases of a run have none: what that base had was removed meanwhile.
pub record HasVanished (hi : Edge) (z : Sizes) (m m' : MyTree) : Type 0 where
  pub near : MyTree
  pub cursor : Cursor
  pub walked : IsWalked z (spot_at hi) m cursor near
  pub route : ℕ
  pub route_is : cursor.low ≡ Some route
  pub mid : MyTree
  pub gone : HasGoneLeft z route near mid
  pub low : List ℕ
  pub begins : (first_note mid.0.upper.notes).place.span.low ≡ Included low
  pub some : 0 < length (first_note mid.0.upper.notes).objects
  pub run : Run
  pub bases : HasAllUpTo (Included low) (bound_of hi) z m'.0.upper run
  pub none : last_object (up_to (bound_of hi) (all_of run m'.0.upper)) ≡ None
