-- What a base is to a range whose next one it is.
use Rattle.std.specs.Prelude.{◌≡◌, ◌≢◌, ◌⊎◌, ℕ, ◌+◌, ◌<◌, ◌≤◌, Option, Some, None, slice_index}
use Rattle.ca_model.specs.declared.outcome.Counter.TheVariants as counter
use Rattle.ca_model.specs.declared.outcome.Spent.{Spent}
use Rattle.ca_adapt.specs.Statistics.{IsPastWord}
use Rattle.ca_adapt.specs.declared.tuning.Tuning.{Tuning}
use Rattle.ca_base.specs.Counting.{losses, HasMet}
use Rattle.ca_base.specs.Putting.{first_note}
use Rattle.ca_base.specs.declared.stop.Exchange.{Exchange}
use Rattle.ca_base.specs.declared.stop.Exchange.TheVariants as exchange
use Rattle.ca_node.specs.Links.{IsIn}
use Rattle.ca_node.specs.Row.{IsMarkedBy}
use Rattle.ca_node.specs.Told.{MyTree, IsSettled}
use Rattle.ca_node.specs.TreeView.{Note, Unfinished, TreeView}
use Rattle.ca_rows.specs.declared.sizes.Sizes.{Sizes}
use Rattle.ca_range.specs.Ahead.{IsAtLast, IsAtMarked, IsFoundOver, IsKnownOver}
use Rattle.ca_range.specs.Farther.{reach}
use Rattle.ca_range.specs.Marked.{second_note}
use Rattle.ca_range.specs.Staying.{HasJoined, IsCounted}
use Rattle.ca_range.specs.declared.account.Range.{Range}
use Rattle.ca_range.specs.declared.filling.Step.{Step}
use Rattle.ca_range.specs.declared.filling.Step.TheVariants as step
use Rattle.ca_range.specs.declared.helped.Helped.{Helped}
use Rattle.ca_range.specs.declared.helped.Helped.TheVariants as helped

-- This range of another pass marked the base, and it was found unfinished.
pub record IsInUse (u : TreeView) (note : Note) (range : Range) : Type 0 where
  pub marked : IsMarkedBy note.its range.owner range.number
  pub unfinished : IsIn {A = Unfinished} (record { pass = range.owner; number = range.number }) u.ranges.unfinished
  pub other : (0 < range.owner) × (range.owner ≤ 64) × (range.owner ≢ u.number)

-- So it is with this one, or no range has the base.
abbrev pub IsUseOf : TreeView → Note → Option Range → Type 0
IsUseOf u note None = IsSettled u note.its
IsUseOf u note (Some range) = IsInUse u note range

-- The same bases and routes are remembered.
pub record RemembersAll (u v : TreeView) : Type 0 where
  pub notes : v.notes ≡ u.notes
  pub ways : v.ways ≡ u.ways

-- This became of the range, given what the pass knew before and behind. Where a join was carried out that was in its way, the help ended, too.
abbrev pub IsEnded : Sizes → Range → Helped → MyTree → MyTree → Type 0
IsEnded z range helped.Finished m m' = (IsFoundOver range m.0.upper m'.0.upper ⊎ HasJoined m.0.upper m'.0.upper) × HasMet 0 0 m m'
IsEnded z range (helped.Lost exchange) m m' = (losses m < losses m') × HasMet 0 0 m m'
IsEnded z range (helped.Busy spent) m m' = ⊥
IsEnded z range helped.NoRow m m' = HasMet 1 0 m m'
IsEnded z range (helped.Worn which) m m' = HasMet 0 1 m m' × (which ≡ counter.PoolTag)

-- One base more was marked, and it was shown last; or a base was shown last that another range has; or the help ended.
abbrev pub HasStepped : Sizes → Range → Step → MyTree → MyTree → Type 0
HasStepped z range (step.Marked next) m m' = IsAtMarked z m'.0.upper range next × (m.0.upper.turns.passed < m'.0.upper.turns.passed) × HasMet 0 0 m m'
HasStepped z range (step.Met next) m m' = IsAtLast z m'.0.upper next.cursor × IsInUse m'.0.upper (first_note m'.0.upper.notes) next.range × HasMet 0 0 m m'
HasStepped z range (step.Ended helped) m m' = IsEnded z range helped m m'

-- how many exchanges of a link were lost, by the exchange that was, by what became of the range, and by what a step came to
abbrev pub links_of : Exchange → ℕ
links_of exchange.Link = 1
links_of exchange.Head = 0

abbrev pub links_lost : Helped → ℕ
links_lost helped.Finished = 0
links_lost (helped.Lost exchange) = links_of exchange
links_lost (helped.Busy spent) = 0
links_lost helped.NoRow = 0
links_lost (helped.Worn which) = 0

abbrev pub step_lost : Step → ℕ
step_lost (step.Marked next) = 0
step_lost (step.Met next) = 0
step_lost (step.Ended helped) = links_lost helped

-- A base that was marked is a copy of this one, with this word for its statistic.
abbrev pub IsCopyOf : Note → ℕ → Step → TreeView → Type 0
IsCopyOf old word (step.Marked next) u = (second_note u.notes ≡ old) × ((first_note u.notes).place ≡ old.place) × ((first_note u.notes).objects ≡ old.objects)
    × (slice_index (first_note u.notes).its 1 ≡ word)
IsCopyOf old word (step.Met next) u = Unit {0}
IsCopyOf old word (step.Ended helped) u = Unit {0}

-- A base that was marked is a copy of the one that was shown before it, with what a range makes of that one's statistic.
abbrev pub IsPassedOn : Tuning → Step → TreeView → Type 0
IsPassedOn t (step.Marked next) u = ((first_note u.notes).place ≡ (second_note u.notes).place) × ((first_note u.notes).objects ≡ (second_note u.notes).objects)
    × IsPastWord t (slice_index (second_note u.notes).its 1) (slice_index (first_note u.notes).its 1)
IsPassedOn t (step.Met next) u = Unit {0}
IsPassedOn t (step.Ended helped) u = Unit {0}

-- The base that was shown last, where the help goes on with it, goes as far as this at least.
abbrev pub GoesTo : ℕ → Step → TreeView → Type 0
GoesTo least (step.Marked next) u = least ≤ reach u
GoesTo least (step.Met next) u = least ≤ reach u
GoesTo least (step.Ended helped) u = Unit {0}

-- how many turns were spent
abbrev pub turns_of : Spent → ℕ
turns_of spent = spent.lost + spent.helped + spent.passed

-- A range is over: this one; or another one that was in its way, and one was counted as helped. So it was where this one was found unfinished. What is over
-- marked the base that was shown last, which goes as far as the one that was shown last before.
pub record IsOneOver (range : Range) (u v : TreeView) : Type 0 where
  pub last : Range
  pub over : IsKnownOver v last
  pub which : (last ≡ range) ⊎ (u.turns.helped < v.turns.helped)
  pub counted : IsCounted range u v
  pub marked : IsMarkedBy (first_note v.notes).its last.owner last.number
  pub far : reach u ≤ reach v

-- The help ended so, or as the budget was spent. Where a join was carried out that was in the way of a range, it ended, too.
abbrev pub IsHelpedTo : Sizes → Range → ℕ → Spent → Helped → MyTree → MyTree → Type 0
IsHelpedTo z range budget spent helped.Finished m m' = (IsOneOver range m.0.upper m'.0.upper ⊎ HasJoined m.0.upper m'.0.upper) × HasMet 0 0 m m'
IsHelpedTo z range budget spent (helped.Lost exchange) m m' = IsEnded z range (helped.Lost exchange) m m'
IsHelpedTo z range budget spent (helped.Busy told) m m' = (told ≡ spent) × (budget ≤ turns_of spent) × HasMet 0 0 m m'
IsHelpedTo z range budget spent helped.NoRow m m' = IsEnded z range helped.NoRow m m'
IsHelpedTo z range budget spent (helped.Worn which) m m' = IsEnded z range (helped.Worn which) m m'

-- Turns were spent, unless the budget was spent before, or the help ended for want of a row.
abbrev pub IsTurned : ℕ → Spent → Spent → Helped → Type 0
IsTurned budget before now helped.Finished = turns_of before < budget → turns_of before < turns_of now
IsTurned budget before now (helped.Lost exchange) = turns_of before < budget → turns_of before < turns_of now
IsTurned budget before now (helped.Busy spent) = turns_of before < budget → turns_of before < turns_of now
IsTurned budget before now helped.NoRow = Unit {0}
IsTurned budget before now (helped.Worn which) = Unit {0}
