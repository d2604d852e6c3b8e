-- What stays of a pass through the steps of a snapshot, and what they come to.
use Rattle.std.specs.Prelude.{◌≡◌, ℕ, ◌≤◌, []}
use Rattle.ca_base.specs.Counting.{HasMet}
use Rattle.ca_base.specs.Taking.{AreHeld}
use Rattle.ca_model.specs.declared.outcome.Counter.TheVariants as counter
use Rattle.ca_model.specs.declared.outcome.Spent.{Spent}
use Rattle.ca_node.specs.Tallied.{IsTallied}
use Rattle.ca_node.specs.Told.{MyTree}
use Rattle.ca_node.specs.TreeView.{TreeView}
use Rattle.ca_range.specs.Clearing.{IsCrossed}
use Rattle.ca_range.specs.Filling.{turns_of}
use Rattle.ca_range.specs.Snapshots.{OnlyRanges}
use Rattle.ca_base.specs.Spending.{IsSpentOn}
use Rattle.ca_range.specs.declared.helped.Helped.{Helped}
use Rattle.ca_range.specs.declared.helped.Helped.TheVariants as helped
use Rattle.ca_range.specs.declared.sought.Snapped.{Snapped}
use Rattle.ca_range.specs.declared.sought.Snapped.TheVariants as snapped
use Rattle.ca_rows.specs.Calls.{IsSame}
use Rattle.ca_rows.specs.declared.space.Pass.{Pass}
use Rattle.ca_rows.specs.declared.space.Space.{Space}

module _ {R : Type 0} where
  -- It is the same pass, pinned as before. It counted what it carried out, and holds no row but one that is lent to its own range.
  pub record StaysPinned (space : Space R TreeView) (pass new : Pass R TreeView) : Type 0 where
    pub same : IsSame pass.seat new.seat
    pub number : new.number ≡ pass.number
    pub tally : IsTallied pass.tally pass.seat.me.0.upper → IsTallied new.tally new.seat.me.0.upper
    pub pin : (new.seat.me.0.sizes ≡ pass.seat.me.0.sizes) × (new.seat.me.0.pin ≡ pass.seat.me.0.pin)
    pub none : AreHeld space.table.shared.key.rows new.kept.rows new.seat.me.0 []

  -- So it is, it learnt of what it was shown and of ranges alone, and what it lost, helped and passed was spent.
  pub record GoesOn (space : Space R TreeView) (before now : Spent) (pass new : Pass R TreeView) : Type 0 where
    pub frame : StaysPinned space pass new
    pub steps : OnlyRanges space.table.shared.key pass.seat.me.0.upper new.seat.me.0.upper
    pub counted : IsSpentOn before now pass.seat.me new.seat.me

-- what a snapshot comes to behind help, by what became of that
abbrev pub snapped_so : Helped → Snapped
snapped_so helped.Finished = snapped.Again
snapped_so (helped.Lost exchange) = snapped.Again
snapped_so (helped.Busy spent) = snapped.Busy
snapped_so helped.NoRow = snapped.NoRow
snapped_so (helped.Worn which) = snapped.Worn counter.PoolTag

-- No run came out, and this is why: another pass was met, or the budget was, or no row was free, or the pool's tag can rise no more.
abbrev pub IsRefused : ℕ → Spent → Snapped → MyTree → MyTree → Type 0
IsRefused budget spent (snapped.Run run) m m' = ⊥
IsRefused budget spent snapped.Again m m' = HasMet 0 0 m m' × IsCrossed m m'
IsRefused budget spent snapped.Busy m m' = HasMet 0 0 m m' × (budget ≤ turns_of spent)
IsRefused budget spent snapped.NoRow m m' = HasMet 1 0 m m'
IsRefused budget spent (snapped.Worn counter.PoolTag) m m' = HasMet 0 1 m m'
IsRefused budget spent (snapped.Worn counter.Epoch) m m' = ⊥
IsRefused budget spent (snapped.Worn counter.Sequence) m m' = ⊥
