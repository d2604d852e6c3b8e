-- A range of a pass's own, whose bases are gathered.
use Rattle.std.specs.Prelude.{◌≡◌, ℕ, ◌<◌, ◌≤◌, Bool, List, slice_index}
use denote.Ref.{Bor}
use denote.Param.Members.{Shared}
use Rattle.ca_base.specs.Counting.{HasMet}
use Rattle.ca_base.specs.Finding.{IsBaseShown}
use Rattle.ca_base.specs.Putting.{first_note}
use Rattle.ca_base.specs.declared.stop.Stop.{Stop}
use Rattle.ca_base.specs.declared.stop.Stop.TheVariants as stop
use Rattle.ca_model.specs.declared.outcome.Counter.TheVariants as counter
use Rattle.ca_model.specs.declared.outcome.Spent.{Spent}
use Rattle.ca_model.specs.Edges.{Excluded, bound_of, from, objects_of}
use Rattle.ca_model.specs.Runs.{HasCounted}
use Rattle.ca_node.specs.declared.cursor.Cursor.{Cursor}
use Rattle.ca_node.specs.Links.{IsIn}
use Rattle.ca_node.specs.OwnRanges.{HasFoundRun}
use Rattle.ca_node.specs.Place.{HasKey}
use Rattle.ca_node.specs.Ranging.{AreChained, top_of}
use Rattle.ca_node.specs.Ranging as ranging
use Rattle.ca_node.specs.Row.{IsMarkedBy, mark_back, mark_bound}
use Rattle.ca_node.specs.Told.{MyTree, IsKnown}
use Rattle.ca_node.specs.TreeView.{Begun, Border, Marking, Note, Quiet, TreeView}
use Rattle.ca_rows.specs.declared.sizes.Sizes.{Sizes}
use Rattle.ca_rows.specs.Layout.{last_sequence}
use Rattle.ca_range.specs.Farther.{reach}
use Rattle.ca_range.specs.Filling.{turns_of}
use Rattle.ca_range.specs.Looking.{HasLooked, IsGoneTo}
use Rattle.ca_range.specs.Marked.{second_note}
use Rattle.ca_range.specs.Snapshots.{HasRun, HasSnapped, IsInBudget, IsThwarted, WasNeeded}
use Rattle.ca_range.specs.declared.gathering.Further.{Further}
use Rattle.ca_range.specs.declared.gathering.Further.TheVariants as further
use Rattle.ca_range.specs.declared.looking.Looked.TheVariants as looked
use Rattle.ca_range.specs.declared.own.Own.{Own}
use Rattle.ca_range.specs.declared.own.Gathered.{Gathered}
use Rattle.ca_range.specs.declared.sought.Run.{Run}
use Rattle.ca_range.specs.declared.sought.Snapped.{Snapped}
use Rattle.ca_range.specs.declared.sought.Snapped.TheVariants as snapped
use Rattle.ca_range.specs.declared.sought.Sought.{Sought}

-- The pass marked a base for a range of its own, which is under way as far as it knows: this one, and this row says up to where it goes.
pub record IsMarking (z : Sizes) (u : TreeView) (own : Own) : Type 0 where
  pub begun : Begun
  pub border : Border
  pub is : u.ranges.own ≡ Marking begun border
  pub number_is : begun.number ≡ own.number
  pub small : own.number ≤ last_sequence
  pub noted : IsIn border u.ranges.borders
  pub row_is : border.row ≡ own.border
  pub inside : own.border ≤ z.rows
  pub owner_is : slice_index border.its 1 ≡ u.number

-- Where the steps ended the range is over.
abbrev pub IsOver : Further → TreeView → Type 0
IsOver (further.On next) u = Unit {0}
IsOver (further.Ended snapped) u = u.ranges.own ≡ Quiet

-- Where a step ended the range with a run, nothing was spent by it.
abbrev pub EndsUnspent : Further → Spent → Spent → Type 0
EndsUnspent (further.On next) before now = Unit {0}
EndsUnspent (further.Ended (snapped.Run run)) before now = now ≡ before
EndsUnspent (further.Ended snapped.Again) before now = Unit {0}
EndsUnspent (further.Ended snapped.Busy) before now = Unit {0}
EndsUnspent (further.Ended snapped.NoRow) before now = Unit {0}
EndsUnspent (further.Ended (snapped.Worn which)) before now = Unit {0}

-- Where it ended with a run, the budget wasn't spent.
abbrev pub EndsInBudget : ℕ → Spent → Further → Type 0
EndsInBudget budget spent (further.On next) = Unit {0}
EndsInBudget budget spent (further.Ended snapped) = IsInBudget budget spent snapped

-- It didn't end with a run.
abbrev pub HasNoRun : Further → Type 0
HasNoRun (further.On next) = Unit {0}
HasNoRun (further.Ended (snapped.Run run)) = ⊥
HasNoRun (further.Ended snapped.Again) = Unit {0}
HasNoRun (further.Ended snapped.Busy) = Unit {0}
HasNoRun (further.Ended snapped.NoRow) = Unit {0}
HasNoRun (further.Ended (snapped.Worn which)) = Unit {0}

-- what a snapshot comes to, where a base couldn't be marked
abbrev pub refused_by : Stop → Snapped
refused_by (stop.Lost exchange) = snapped.Again
refused_by stop.Empty = snapped.NoRow
refused_by stop.Worn = snapped.Worn counter.PoolTag

-- Another pass had decided the range with this row as the last one of its run, which is shown then.
abbrev pub HasLoadedRun : Begun → Border → ℕ → MyTree → MyTree → Type 0
HasLoadedRun begun border last m m' = (n : ℕ) × (found : HasFoundRun m n m' begun border) × (found.last ≡ last)

module _ {F : Type 0} (g : Shared F (Bor (List ℕ) × Unit {0}) Bool) (sought : Sought F) where
  -- It was needed, and goes from the lower edge up to the upper one.
  pub record IsBetween (z : Sizes) (u : TreeView) (own : Own) : Type 0 where
    pub marking : IsMarking z u own
    pub edge : marking.begun.edge ≡ bound_of sought.lo
    pub top : top_of marking.border.its ≡ bound_of sought.hi
    pub needed : WasNeeded g sought u own.number

  -- These bases are on the chain that leads from this row to the left, and were shown. So many of their objects within the lower edge were counted.
  pub record HasPassed (u : TreeView) (row counted : ℕ) : Type 0 where
    pub bases : List Note
    pub chained : AreChained row bases
    pub noted : (note : Note) → IsIn note bases → IsIn note u.notes
    pub counted_so : HasCounted g sought.counts.now counted (objects_of (from (bound_of sought.lo) (ranging.objects_of bases)))

  -- The range marked the base that was shown last, and so many objects were counted in those before.
  pub record IsGathering (z : Sizes) (u : TreeView) (now : Gathered) : Type 0 where
    pub between : IsBetween z u now.own
    pub gone : IsGoneTo z u now.left
    pub marked : IsMarkedBy (first_note u.notes).its u.number now.own.number
    pub bound : mark_bound (first_note u.notes).its ≡ now.own.border
    pub passed : HasPassed u (mark_back (first_note u.notes).its) now.counted
    pub known : IsKnown z u

  -- The base that was shown last is the next one behind the last one that the range marked, which was shown before it.
  pub record IsGatheredNext (z : Sizes) (u : TreeView) (before : Gathered) (next : Cursor) : Type 0 where
    pub between : IsBetween z u before.own
    pub gone : IsGoneTo z u next
    pub left_shown : IsBaseShown z u before.left.base (second_note u.notes)
    pub left_marked : IsMarkedBy (second_note u.notes).its u.number before.own.number
    pub left_bound : mark_bound (second_note u.notes).its ≡ before.own.border
    pub key : List ℕ
    pub ends : (second_note u.notes).place.span.high ≡ Excluded key
    pub has : HasKey (first_note u.notes).place.span key
    pub passed : HasPassed u before.left.base before.counted
    pub known : IsKnown z u

  -- No more bases are needed.
  abbrev pub IsEnough : Sizes → TreeView → Gathered → Bool → Type 0
  IsEnough z u now whole = IsGathering z u now
      × ((key : List ℕ) × HasLooked g sought now.counted (looked.Done whole) key (first_note u.notes))

  -- A run was decided, by the pass or by another one.
  abbrev pub HasSettled : Sizes → Run → MyTree → MyTree → Type 0
  HasSettled z run m m' = HasMet 0 0 m m' × HasRun g sought z m'.0.upper run

  -- So the steps on the range ended, with this budget, of which so much was spent.
  abbrev pub HasEnded : Sizes → ℕ → Spent → Snapped → MyTree → MyTree → Type 0
  HasEnded z budget spent (snapped.Run run) m m' = HasSettled z run m m'
  HasEnded z budget spent snapped.Again m m' = HasMet 0 0 m m' × IsThwarted m m'
  HasEnded z budget spent snapped.Busy m m' = HasMet 0 0 m m' × (budget ≤ turns_of spent)
  HasEnded z budget spent snapped.NoRow m m' = HasMet 1 0 m m'
  HasEnded z budget spent (snapped.Worn counter.PoolTag) m m' = HasMet 0 1 m m'
  HasEnded z budget spent (snapped.Worn counter.Epoch) m m' = ⊥
  HasEnded z budget spent (snapped.Worn counter.Sequence) m m' = ⊥

  -- A range was begun, and marked the base that was shown last, which is its first one; or none was, and a snapshot comes to this.
  abbrev pub HasBegun : Sizes → ℕ → Spent → Further → MyTree → MyTree → Type 0
  HasBegun z budget spent (further.On first) m m' = IsGathering z m'.0.upper first × (first.counted ≡ 0) × (mark_back (first_note m'.0.upper.notes).its ≡ 0)
      × HasMet 0 0 m m' × (m.0.upper.turns.passed < m'.0.upper.turns.passed)
  HasBegun z budget spent (further.Ended snapped) m m' = HasSnapped g sought z budget spent snapped m m'

  -- The base that was shown last is the next one that the range marked, and goes farther than this; or the steps ended.
  abbrev pub IsFurther : Sizes → ℕ → ℕ → Spent → Further → MyTree → MyTree → Type 0
  IsFurther z far budget spent (further.On next) m m' = IsGathering z m'.0.upper next × (far < reach m'.0.upper) × HasMet 0 0 m m'
  IsFurther z far budget spent (further.Ended snapped) m m' = HasEnded z budget spent snapped m m'
