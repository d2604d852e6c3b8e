-- What a pass knows behind a snapshot: bases that have together what one state of the history has.
use Rattle.std.specs.Prelude.{◌≡◌, ◌⊎◌, ℕ, ◌+◌, ◌<◌, ◌≤◌, ◌++◌, Bool, true, false, List, [], ◌∷◌, cond, length}
use denote.Ref.{Bor}
use denote.Param.Members.{Shared}
use mathlib.Core.Option.{some}
use Rattle.ca_base.specs.Counting.{HasMet}
use Rattle.ca_base.specs.Finding.{IsReadable}
use Rattle.ca_base.specs.Putting.{first_note}
use Rattle.ca_model.specs.declared.outcome.Counter.TheVariants as counter
use Rattle.ca_model.specs.declared.outcome.Spent.{Spent}
use Rattle.ca_model.specs.Edges.{Bound, bound_of, objects_of, within}
use Rattle.ca_model.specs.History.{History, state}
use Rattle.ca_model.specs.Runs.{Reaches}
use Rattle.ca_node.specs.Links.{IsIn}
use Rattle.ca_node.specs.Ranging.{AreChained}
use Rattle.ca_node.specs.Ranging as ranging
use Rattle.ca_node.specs.Row.{IsMarkedBy, mark_back}
use Rattle.ca_node.specs.Told.{MyTree, IsKnown}
use Rattle.ca_node.specs.TreeView.{Note, TreeView}
use Rattle.ca_range.specs.Clearing.{IsCrossed, turns_at}
use Rattle.ca_range.specs.Edged.{EndsBefore}
use Rattle.ca_range.specs.Filling.{turns_of}
use Rattle.ca_range.specs.Looking.{IsNotEnough}
use Rattle.ca_range.specs.Marked.{IsAstray}
use Rattle.ca_range.specs.Staying.{with_steps_of}
use Rattle.ca_range.specs.declared.sought.Run.{Run}
use Rattle.ca_range.specs.declared.sought.Snapped.{Snapped}
use Rattle.ca_range.specs.declared.sought.Snapped.TheVariants as snapped
use Rattle.ca_range.specs.declared.sought.Sought.{Sought}
use Rattle.ca_rows.specs.declared.sizes.Sizes.{Sizes}
use Rattle.ca_rows.specs.Layout.{last_sequence}
use Rattle.ca_runs.specs.Runs.{BeginsBefore}

-- It has seen no less, and else only what it was shown, loaded and counted changed, and what it knows of ranges: its log, its refusals and what it edited are
-- as before.
pub record OnlyRanges (z : Sizes) (u v : TreeView) : Type 0 where
  pub only : v ≡ record (with_steps_of u v) { ranges = v.ranges }
  pub seen : (more : History) × (v.seen ≡ u.seen ++ more)
  pub known : IsKnown z u → IsKnown z v
  -- Each join that it carried out was counted as one that it helped.
  pub joins : u.joins ≤ v.joins
  pub joined : v.joins + u.turns.helped ≤ u.joins + v.turns.helped

-- Where a run came out, the budget wasn't spent.
abbrev pub IsInBudget : ℕ → Spent → Snapped → Type 0
IsInBudget budget spent (snapped.Run run) = turns_of spent < budget
IsInBudget budget spent snapped.Again = Unit {0}
IsInBudget budget spent snapped.Busy = Unit {0}
IsInBudget budget spent snapped.NoRow = Unit {0}
IsInBudget budget spent (snapped.Worn which) = Unit {0}

-- the bases of a run, from the last one on: those on its chain, or the one that was shown last
abbrev pub bases_of : Run → TreeView → List Note
bases_of run u = cond run.chained u.ranges.run (first_note u.notes ∷ [])

-- They were shown, and can be read.
pub record IsRemembered (z : Sizes) (u : TreeView) (run : Run) : Type 0 where
  pub last_is : (first_note (bases_of run u)).row ≡ run.last
  pub some : 0 < length (bases_of run u)
  pub few : length (bases_of run u) ≤ z.rows
  pub chained : run.chained ≡ true → AreChained run.last u.ranges.run
  pub readable : (note : Note) → IsIn note (bases_of run u) → IsReadable z u note.row note

-- An exchange was lost, or an operation of another pass was helped; or a base was met that a range of the pass's own marked, but not as its next one. What the
-- pass marked itself is no cause.
abbrev pub IsThwarted : MyTree → MyTree → Type 0
IsThwarted m m' = IsCrossed m m' ⊎ IsAstray m'.0.upper

module _ {F : Type 0} (g : Shared F (Bor (List ℕ) × Unit {0}) Bool) (sought : Sought F) where
  -- The range with this number was needed: the first base that it marked was shown, and isn't enough by itself.
  pub record WasNeeded (u : TreeView) (number : ℕ) : Type 0 where
    pub first : Note
    pub noted : IsIn first u.notes
    pub marked : IsMarkedBy first.its u.number number × (mark_back first.its ≡ 0)
    pub short : IsNotEnough g sought first

  -- They have what a state since the pin has: from the lower edge on, or from before it, up to the last one's end. Up to the cut these are the objects from the
  -- lower edge on: all within the edges, or as many as were wanted.
  pub record HasRun (z : Sizes) (u : TreeView) (run : Run) : Type 0 where
    pub remembered : IsRemembered z u run
    pub at : ℕ
    pub later : length u.since ≤ at
    pub seen : at ≤ length u.seen
    pub low : Bound
    pub before : BeginsBefore low (bound_of sought.lo)
    pub shown : ranging.objects_of (bases_of run u) ≡ within low (first_note (bases_of run u)).place.span.high (state u.seen at)
    pub cut : Bound
    pub inside : EndsBefore cut (first_note (bases_of run u)).place.span.high
    -- a run that isn't whole is cut where the last of them ends
    pub cut_is : run.whole ≡ false → cut ≡ (first_note (bases_of run u)).place.span.high
    pub reaches : Reaches g sought.counts.now (bound_of sought.hi) cut sought.want
        (objects_of (within (bound_of sought.lo) cut (ranging.objects_of (bases_of run u)))) run.whole
    -- a range was needed for them, where one marked them
    pub needed : run.chained ≡ true → (number : ℕ) × WasNeeded u number
    pub known : IsKnown z u

  -- So a snapshot came out, with this budget, of which so much was spent.
  abbrev pub HasSnapped : Sizes → ℕ → Spent → Snapped → MyTree → MyTree → Type 0
  HasSnapped z budget spent (snapped.Run run) m m' = HasMet 0 0 m m' × HasRun z m'.0.upper run
  HasSnapped z budget spent snapped.Again m m' = HasMet 0 0 m m' × (turns_at m < turns_at m') × IsThwarted m m'
  HasSnapped z budget spent snapped.Busy m m' = HasMet 0 0 m m' × (budget ≤ turns_of spent)
  HasSnapped z budget spent snapped.NoRow m m' = HasMet 1 0 m m'
  HasSnapped z budget spent (snapped.Worn counter.PoolTag) m m' = HasMet 0 1 m m'
  HasSnapped z budget spent (snapped.Worn counter.Epoch) m m' = ⊥
  HasSnapped z budget spent (snapped.Worn counter.Sequence) m m' = HasMet 0 0 m m' × (m'.0.upper.ranges.sequence ≡ some last_sequence)
      × IsNotEnough g sought m'.0.upper.last
