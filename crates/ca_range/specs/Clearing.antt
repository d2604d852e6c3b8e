-- What a pass does about the mark of a base that it is to exchange.
use Rattle.std.specs.Prelude.{◌≡◌, ◌≢◌, ◌⊎◌, ◌↔◌, IsTrue, ℕ, ◌+◌, ◌<◌, Bool, false, List, []}
use Rattle.ca_base.specs.Counting.{losses, HasMet}
use Rattle.ca_base.specs.Putting.{first_note}
use Rattle.ca_base.specs.Readiness.{StaysReady}
use Rattle.ca_model.specs.declared.outcome.Counter.TheVariants as counter
use Rattle.ca_model.specs.declared.outcome.Spent.{Spent}
use Rattle.ca_node.specs.Row.{mark, IsMarkedBy}
use Rattle.ca_node.specs.Told.{MyTree, with_upper, IsKnown, IsSettled, IsUnjoined}
use Rattle.ca_node.specs.TreeView.{KnownRanges, TreeView}
use Rattle.ca_node.specs.Layout.{marked_by_range, marked_by_join}
use Rattle.ca_range.specs.Filling.{IsHelpedTo, links_lost}
use Rattle.ca_base.specs.Spending.{IsSpentOn}
use Rattle.ca_range.specs.Staying.{HasJoined, OnlySteps}
use Rattle.ca_range.specs.declared.account.Range.{Range}
use Rattle.ca_range.specs.declared.clearing.Way.{Way}
use Rattle.ca_range.specs.declared.clearing.Way.TheVariants as way
use Rattle.ca_range.specs.declared.helped.Helped.{Helped}
use Rattle.ca_range.specs.declared.helped.Helped.TheVariants as helped
use Rattle.ca_rows.specs.declared.space.Pass.{Pass}
use Rattle.ca_rows.specs.declared.space.Space.{Space}
use Rattle.ca_rows.specs.Passes.{KeepsList}
use Rattle.ca_rows.specs.declared.sizes.Sizes.{Sizes}
use Rattle.ca_range.specs.Loading.{EndsBy}

-- how many turns a seat spent: exchanges that were lost, operations that were helped, and places that were passed
abbrev pub turns_at : MyTree → ℕ
turns_at m = losses m + m.0.upper.turns.helped + m.0.upper.turns.passed

-- Another pass was met: an exchange was lost, or an operation of another one was helped to its end.
abbrev pub IsCrossed : MyTree → MyTree → Type 0
IsCrossed m m' = (losses m < losses m') ⊎ (m.0.upper.turns.helped < m'.0.upper.turns.helped)

-- It learnt of ranges and joins alone, but of its own range nothing. Where the base wasn't marked it found none of another pass unfinished.
abbrev pub LearnsOfRanges : Bool → MyTree → MyTree → Type 0
LearnsOfRanges marked m m' = (ranges : KnownRanges) × (marked ≡ false → ranges.unfinished ≡ []) × (ranges.own ≡ m.0.upper.ranges.own)
    × (m' ≡ with_upper m (record m.0.upper { ranges = ranges }))

-- nothing was spent
abbrev pub none_spent : Spent
none_spent = record { lost = 0; helped = 0; passed = 0 }

-- Where neither a range has the base nor a join, no range of another pass is found unfinished.
abbrev pub IsUnmet : Way → TreeView → Type 0
IsUnmet (way.Free marked) u = u.ranges.unfinished ≡ []
IsUnmet (way.Helped helped spent) u = Unit {0}

-- So the help of a range ended: a turn was spent; or the pool's head was found empty, or with its tag at the last value, once.
abbrev pub HasGone : Helped → MyTree → MyTree → Type 0
HasGone helped.Finished m m' = HasMet 0 0 m m' × (turns_at m < turns_at m')
HasGone (helped.Lost exchange) m m' = HasMet 0 0 m m' × (turns_at m < turns_at m')
HasGone (helped.Busy spent) m m' = HasMet 0 0 m m' × (turns_at m < turns_at m')
HasGone helped.NoRow m m' = HasMet 1 0 m m'
HasGone (helped.Worn which) m m' = HasMet 0 1 m m'

-- Where it ended, one operation more was counted as helped; where an exchange was lost, one was; and no other counter is worn than the pool's tag.
abbrev pub CountsHelp : Helped → MyTree → MyTree → Type 0
CountsHelp helped.Finished m m' = m.0.upper.turns.helped < m'.0.upper.turns.helped
CountsHelp (helped.Lost exchange) m m' = losses m < losses m'
CountsHelp (helped.Busy spent) m m' = Unit {0}
CountsHelp helped.NoRow m m' = Unit {0}
CountsHelp (helped.Worn which) m m' = which ≡ counter.PoolTag

-- An attempt to join marked a base with these words: it is finished then, as the pass knows, or one was carried out; or why not.
abbrev pub HasEndedAttempt : List ℕ → Helped → TreeView → TreeView → Type 0
HasEndedAttempt its helped.Finished u v = IsUnjoined v its ⊎ HasJoined u v
HasEndedAttempt its (helped.Lost exchange) u v = Unit {0}
HasEndedAttempt its (helped.Busy spent) u v = ⊥
HasEndedAttempt its helped.NoRow u v = Unit {0}
HasEndedAttempt its (helped.Worn which) u v = Unit {0}

-- The base with these words was in use: another pass's range marked it, and was helped to this; or an attempt to join did, and came to this.
abbrev pub WasInWay : Sizes → ℕ → Spent → Helped → List ℕ → MyTree → MyTree → Type 0
WasInWay z budget spent helped its m m' = ((range : Range) × IsMarkedBy its range.owner range.number × (range.owner ≢ m.0.upper.number)
    × IsHelpedTo z range budget spent helped m m') ⊎ ((mark its ≡ marked_by_join) × HasEndedAttempt its helped m.0.upper m'.0.upper)

-- A range marked the base with these words, or an attempt to join did.
abbrev pub IsMarked : List ℕ → Type 0
IsMarked its = (mark its ≡ marked_by_range) ⊎ (mark its ≡ marked_by_join)

-- Whether the base that was shown last before was marked; or what was helped, with this budget, had that base.
abbrev pub IsOfBase : Sizes → ℕ → Way → MyTree → MyTree → Type 0
IsOfBase z budget (way.Free marked) m m' = IsTrue marked ↔ IsMarked (first_note m.0.upper.notes).its
IsOfBase z budget (way.Helped helped spent) m m' = WasInWay z budget spent helped (first_note m.0.upper.notes).its m m' × CountsHelp helped m m'

module _ {R : Type 0} where
  -- A range of another pass was helped, or an attempt to join given up or carried out, which came to this, and so much was spent.
  pub record HasHelpedWith (space : Space R TreeView) (helped : Helped) (spent : Spent) (pass new : Pass R TreeView) : Type 0 where
    pub frame : StaysReady space pass new
    pub steps : OnlySteps space.table.shared.key (links_lost helped) pass.seat.me.0.upper new.seat.me.0.upper
    pub counted : IsSpentOn none_spent spent pass.seat.me new.seat.me
    pub gone : HasGone helped pass.seat.me new.seat.me
    -- how many links it loaded by that
    pub loads : EndsBy space.table.shared.key pass.seat.me.0.upper new.seat.me.0.upper
    -- The pass isn't the only one of the space.
    pub several : IsKnown space.table.shared.key pass.seat.me.0.upper → 1 < space.table.shared.key.passes

  -- Neither a range has the base that was shown last nor a join, as the pass knows then; or another pass's range was helped, or an attempt to join given up or
  -- carried out.
  abbrev pub IsCleared : Space R TreeView → Way → Pass R TreeView → Pass R TreeView → Type 0
  IsCleared space (way.Free marked) pass new = KeepsList pass new × IsSettled new.seat.me.0.upper (first_note new.seat.me.0.upper.notes).its
      × LearnsOfRanges marked pass.seat.me new.seat.me
  IsCleared space (way.Helped helped spent) pass new = HasHelpedWith space helped spent pass new
