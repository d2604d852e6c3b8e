-- Calls that read ranges: one attempt of such a call, what its attempts come to, and why such a call is refused.
use Rattle.std.specs.Prelude.{◌≡◌, ◌⊎◌, ℕ, ◌+◌, ◌*◌, ◌<◌, ◌≤◌, [], Result, Ok, Err, Vec}
use Rattle.std.specs.declared.option.Option.TheVariants.{None}
use Rattle.std.specs.Global.{Global}
use mathlib.Core.Option.{some}
use Rattle.ca_base.specs.Counting.{HasMet}
use Rattle.ca_base.specs.Progress.{IsFurther, IsRefused}
use Rattle.ca_base.specs.Readiness.{IsReady}
use Rattle.ca_model.specs.Event.{Event}
use Rattle.ca_model.specs.Known.{one_more}
use Rattle.ca_model.specs.declared.outcome.Cause.{Cause}
use Rattle.ca_model.specs.declared.outcome.Cause.TheVariants as cause
use Rattle.ca_model.specs.declared.outcome.Counter.TheVariants as counter
use Rattle.ca_model.specs.declared.outcome.Outcome.{Outcome}
use Rattle.ca_model.specs.declared.outcome.Spent.{Spent}
use Rattle.ca_node.specs.States.{IsAtPin}
use Rattle.ca_node.specs.Tallied.{IsTallied}
use Rattle.ca_node.specs.Told.{IsKnown, MyTree}
use Rattle.ca_node.specs.TreeView.{Note, Quiet, TreeView}
use Rattle.ca_range.specs.Clearing.{turns_at}
use Rattle.ca_range.specs.Snapshots.{IsThwarted}
use Rattle.ca_replace.specs.Acts.{acts_of}
use Rattle.ca_replace.specs.declared.missing.Miss.{Miss}
use Rattle.ca_replace.specs.declared.missing.Miss.TheVariants as miss
use Rattle.ca_replace.specs.Attempting.{HasDoneSuch, total}
use Rattle.ca_replace.specs.Bounded.{IsBounded, looked_in, pinned_in}
use Rattle.ca_replace.specs.Causes.{EndsAtLag, IfCaused, IsCaused, IsUnspent}
use Rattle.ca_replace.specs.Loading.{LoadsInRead}
use Rattle.ca_replace.specs.Resting.{StaysAtRest, StoreView}
use Rattle.ca_rows.specs.declared.kept.Kept.{Kept}
use Rattle.ca_rows.specs.declared.sizes.Sizes.{Sizes}
use Rattle.ca_rows.specs.declared.space.Pass.{Pass}
use Rattle.ca_rows.specs.declared.space.Space.{Space}
use Rattle.ca_rows.specs.Layout.{last_sequence}

module _ {R : Type 0} where
  -- The pass is one of this space. It is pinned, holds no row, has no range, and counted what it carried out.
  pub record IsAtWork (space : Space R TreeView) (pass : Pass R TreeView) : Type 0 where
    pub ready : IsReady space pass
    pub known : IsKnown space.table.shared.key pass.seat.me.0.upper
    pub number : pass.number ≡ pass.seat.me.0.upper.number
    pub quiet : pass.seat.me.0.upper.ranges.own ≡ Quiet
    pub tallied : IsTallied pass.tally pass.seat.me.0.upper

  -- It is the same pass, and is so.
  pub record GetsToWork (space : Space R TreeView) (pass new : Pass R TreeView) : Type 0 where
    pub number : new.number ≡ pass.number
    pub at_work : IsAtWork space new

  -- It is the same pass: where the call was done it is at work, and else it rests.
  abbrev pub WorksOrRests : {T E : Type 0} → Space R TreeView → Result T E → Pass R TreeView → Pass R TreeView → Type 0
  WorksOrRests space (Ok x) pass new = GetsToWork space pass new
  WorksOrRests space (Err why) pass new = StaysAtRest space pass new

-- The pass was just pinned: it was shown nothing since, and found no range of another pass unfinished.
pub record HasJustPinned (u : TreeView) : Type 0 where
  pub at_pin : IsAtPin u
  pub none_met : u.ranges.unfinished ≡ []
  pub none_shown : u.notes ≡ []

-- An attempt came to nothing for this cause, given the call's budget, and what it spent in all. Where the number of its pass's ranges is the last one, the base
-- to which it walked last is one of which the call needs more.
abbrev pub HasMissed : (Note → Type 0) → ℕ → Spent → Miss → MyTree → MyTree → Type 0
HasMissed Needs budget spent miss.Again m m' = HasMet 0 0 m m' × (turns_at m < turns_at m')
HasMissed Needs budget spent miss.Busy m m' = HasMet 0 0 m m' × (budget ≤ total spent)
HasMissed Needs budget spent miss.NoRow m m' = HasMet 1 0 m m'
HasMissed Needs budget spent (miss.Worn counter.PoolTag) m m' = HasMet 0 1 m m'
HasMissed Needs budget spent (miss.Worn counter.Epoch) m m' = ⊥
HasMissed Needs budget spent (miss.Worn counter.Sequence) m m' = HasMet 0 0 m m' × (m'.0.upper.ranges.sequence ≡ some last_sequence) × Needs m'.0.upper.last

abbrev pub HasMissedBy : {T : Type 0} → (Note → Type 0) → ℕ → Spent → Result T Miss → MyTree → MyTree → Type 0
HasMissedBy Needs budget spent (Ok x) m m' = Unit {0}
HasMissedBy Needs budget spent (Err why) m m' = HasMissed Needs budget spent why m m'

-- An attempt is made anew only where another pass was met, as `IsThwarted` says; or where what one base had vanished, before the call came to it again.
abbrev pub MayTryAgain : (MyTree → MyTree → Type 0) → Miss → MyTree → MyTree → Type 0
MayTryAgain Vanished miss.Again m m' = IsThwarted m m' ⊎ Vanished m m'
MayTryAgain Vanished miss.Busy m m' = Unit {0}
MayTryAgain Vanished miss.NoRow m m' = Unit {0}
MayTryAgain Vanished (miss.Worn which) m m' = Unit {0}

-- Of most calls nothing vanishes.
abbrev pub NeverVanishes : MyTree → MyTree → Type 0
NeverVanishes m m' = ⊥

-- The attempt did the call, which is told so, by what is known then; or it came to nothing, and learnt of others' edits alone. It began no attempt to join, and
-- split no base.
abbrev pub HasRangedTo : {T : Type 0} → (T → TreeView → Event → Type 0) → Sizes → Result T Miss → TreeView → TreeView → Type 0
HasRangedTo tells z (Ok x) u v = HasDoneSuch (tells x v) u v × IsKnown z v × (acts_of v ≡ acts_of u)
HasRangedTo tells z (Err why) u v = IsFurther u v × IsKnown z v × (acts_of v ≡ acts_of u)

-- So it is of an attempt of a pass of this space.
abbrev pub RangesTo : {R T : Type 0} → (T → TreeView → Event → Type 0) → Space R TreeView → Result T Miss → Pass R TreeView → Pass R TreeView → Type 0
RangesTo tells space r pass new = HasRangedTo tells space.table.shared.key r pass.seat.me.0.upper new.seat.me.0.upper

-- Attempts did the call, which is told so; or it is refused, and they learnt of others' edits alone. They began no attempt to join, and split no base.
abbrev pub HasRanged : {T : Type 0} → (T → TreeView → Event → Type 0) → Result T Cause → TreeView → TreeView → Type 0
HasRanged tells (Ok x) u v = HasDoneSuch (tells x v) u v × (acts_of v ≡ acts_of u)
HasRanged tells (Err why) u v = IsFurther u v × (acts_of v ≡ acts_of u)

-- So it is as the call ends: where it is refused, that is counted.
abbrev pub EndsReading : {T : Type 0} → (T → TreeView → Event → Type 0) → Result T Cause → TreeView → TreeView → Type 0
EndsReading tells (Ok x) u v = HasDoneSuch (tells x v) u v × (acts_of v ≡ acts_of u)
EndsReading tells (Err why) u v = IsRefused (one_more why) u v × (acts_of v ≡ acts_of u)

-- A call was entered in the log, told so by what the pass knew as it came to its answer.
abbrev pub HasDoneOnce : {R : Type 0} → (TreeView → Event → Type 0) → Pass R TreeView → Pass R TreeView → Type 0
HasDoneOnce tells pass new = (then : TreeView) × HasDoneSuch (tells then) pass.seat.me.0.upper new.seat.me.0.upper

-- A pass that kept so many rows pinned so often in such a call, and looked at the others; so many links were loaded; and a pass was found to lag once at most.
pub record IsReadBounded (z : Sizes) (kept : ℕ) (m m' : MyTree) : Type 0 where
  pub lags : EndsAtLag m m'
  pub bounded : IsBounded kept m m'
  pub loads : LoadsInRead z m m'

-- Such a call came to its answer by this budget, which isn't spent: no pass was found to lag, and there is room for the looks at the others behind it.
pub record AnswersInBudget (budget : ℕ) (m m' : MyTree) : Type 0 where
  pub looks : m.0.pin.looks ≤ m'.0.pin.looks
  pub looked : looked_in m m' + 3 ≤ 3 * pinned_in m m'
  pub all_seen : m'.0.pin.lags ≡ m.0.pin.lags
  pub unspent : IsUnspent budget m m'

-- why a call is refused whose last attempt came to this, given what was spent
abbrev pub cause_of : Miss → Spent → Cause
cause_of miss.Again spent = cause.Busy spent
cause_of miss.Busy spent = cause.Busy spent
cause_of miss.NoRow spent = cause.Busy spent
cause_of (miss.Worn counter) spent = cause.Worn counter

-- A call with this budget that reads a range may be refused so, given what its pass knew and kept before it and what it knows and keeps behind it: as one that
-- adds no key; or the number of its pass's ranges is the last one, and the base to which it walked last is one of which the call needs more.
abbrev pub IsRangeCaused : (Note → Type 0) → Sizes → ℕ → ℕ → Cause → MyTree → Vec Kept Global → MyTree → Vec Kept Global → Type 0
IsRangeCaused Needs z number budget (cause.Busy spent) m kept m' kept' = IsCaused z number budget None (cause.Busy spent) m kept m' kept'
IsRangeCaused Needs z number budget (cause.Full full) m kept m' kept' = IsCaused z number budget None (cause.Full full) m kept m' kept'
IsRangeCaused Needs z number budget (cause.Deep level) m kept m' kept' = ⊥
IsRangeCaused Needs z number budget (cause.Worn counter.PoolTag) m kept m' kept' = IsCaused z number budget None (cause.Worn counter.PoolTag) m kept m' kept'
IsRangeCaused Needs z number budget (cause.Worn counter.Epoch) m kept m' kept' = IsCaused z number budget None (cause.Worn counter.Epoch) m kept m' kept'
IsRangeCaused Needs z number budget (cause.Worn counter.Sequence) m kept m' kept' = (m'.0.upper.ranges.sequence ≡ some last_sequence) × Needs m'.0.upper.last

-- So it is of a call of this pass, by what it was before the call and what it is behind it.
abbrev pub IsRangeCausedBy : {R : Type 0} → (Note → Type 0) → Space R TreeView → ℕ → Cause → Pass R TreeView → Pass R TreeView → Type 0
IsRangeCausedBy Needs space budget why pass new =
    IsRangeCaused Needs space.table.shared.key pass.number budget why pass.seat.me pass.kept.rows new.seat.me new.kept.rows

-- A call of a pass's store that reads a range may be refused so, given what contracts see of the store before it and behind it.
abbrev pub HasRangeCause : {T : Type 0} → (Note → Type 0) → ℕ → StoreView → StoreView → Outcome T → Type 0
HasRangeCause Needs budget s t o = IfCaused o (λ why. IsRangeCaused Needs s.z s.number budget why s.seat.me s.kept t.seat.me t.kept)
