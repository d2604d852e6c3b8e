-- What becomes of a base that is to be split.
use Rattle.std.specs.Prelude.{◌≡◌, ◌⊎◌, ℕ, ◌<◌, ◌≤◌, min, length, Result, Ok, Err}
use Rattle.ca_adapt.specs.declared.adapted.Adapted.{Adapted}
use Rattle.ca_adapt.specs.declared.adapted.Adapted.TheVariants as adapted
use Rattle.ca_adapt.specs.declared.adapted.Why.{Why}
use Rattle.ca_adapt.specs.declared.adapted.Why.TheVariants as why
use Rattle.ca_base.specs.declared.stop.Stop.{Stop}
use Rattle.ca_base.specs.declared.stop.Stop.TheVariants as stop
use Rattle.ca_base.specs.Counting.{losses, HasMet, PutsBack}
use Rattle.ca_base.specs.Splitting.{HasSplit, split_forms}
use Rattle.ca_node.specs.Told.{MyTree, one_more_lost}
use Rattle.ca_node.specs.TreeView.{Note}
use Rattle.ca_rows.specs.declared.kept.KeptRows.{KeptRows}
use Rattle.ca_rows.specs.declared.sizes.Sizes.{Sizes}

-- what became of it, by what became of its exchange
abbrev pub answer_to : {T : Type 0} → Result T Stop → Adapted
answer_to (Ok x) = adapted.Split
answer_to (Err (stop.Lost exchange)) = adapted.NotSplit why.Lost
answer_to (Err stop.Empty) = adapted.NotSplit why.NoRow
answer_to (Err stop.Worn) = adapted.NotSplit why.Worn

-- how many attempts to join a new route is said to have had: as many as the space was made with
abbrev pub attempts_at_first : Sizes → ℕ
attempts_at_first z = min z.starts.attempt 4611686018427387903

-- It has two objects at least, and stands above the last level.
abbrev pub MayBeSplit : Sizes → Note → Type 0
MayBeSplit z note = (2 ≤ length note.objects) × (note.place.level < z.levels)

-- This is why the base was not split, given what the pass knew before and behind.
abbrev pub IsWhyNotSplit : Sizes → Note → Why → MyTree → MyTree → Type 0
IsWhyNotSplit z note why.Root m m' = ⊥
IsWhyNotSplit z note why.OneObject m m' = (length note.objects < 2) × (m' ≡ m)
IsWhyNotSplit z note why.AtLevel m m' = (2 ≤ length note.objects) × (z.levels ≤ note.place.level) × (m' ≡ m)
IsWhyNotSplit z note why.SiblingRoute m m' = ⊥
IsWhyNotSplit z note why.TooMany m m' = ⊥
-- No range has the base, and no join, as is known before.
IsWhyNotSplit z note why.Taken m m' = ⊥
IsWhyNotSplit z note why.Lost m m' = MayBeSplit z note × (losses m < losses m') × HasMet 0 0 m m'
    × ((m'.0.upper ≡ m.0.upper) ⊎ (m'.0.upper ≡ one_more_lost m.0.upper))
IsWhyNotSplit z note why.NoRow m m' = MayBeSplit z note × HasMet 1 0 m m' × (m'.0.upper ≡ m.0.upper)
IsWhyNotSplit z note why.Worn m m' = MayBeSplit z note × HasMet 0 1 m m' × (m'.0.upper ≡ m.0.upper)

-- This became of the base that was to be split: its exchange was won, or there is the cause.
abbrev pub IsSplitOutcome : Sizes → Note → Adapted → MyTree → MyTree → Type 0
IsSplitOutcome z note adapted.Stay m m' = ⊥
IsSplitOutcome z note adapted.Split m m' = MayBeSplit z note × HasMet 0 0 m m'
    × HasSplit {T = Unit {0}} (length note.objects) (attempts_at_first z) (Ok tt) m.0.upper m'.0.upper
IsSplitOutcome z note adapted.Joined m m' = ⊥
IsSplitOutcome z note (adapted.NotSplit why) m m' = IsWhyNotSplit z note why m m'
IsSplitOutcome z note (adapted.NotJoined why) m m' = ⊥

-- A base that was split was split by one try: no exchange was lost in it.
abbrev pub IsOneTry : Adapted → MyTree → MyTree → Type 0
IsOneTry a m m' = a ≡ adapted.Split → losses m' ≡ losses m

-- The rows that were taken for a split that wasn't made were put back: one exchange was lost by the taking, or that of the base, where one was.
abbrev pub HasSplitBack : Adapted → MyTree → MyTree → KeptRows → KeptRows → Type 0
HasSplitBack adapted.Stay m m' kept kept' = Unit {0}
HasSplitBack adapted.Split m m' kept kept' = Unit {0}
HasSplitBack adapted.Joined m m' kept kept' = Unit {0}
HasSplitBack (adapted.NotSplit why.Root) m m' kept kept' = Unit {0}
HasSplitBack (adapted.NotSplit why.OneObject) m m' kept kept' = kept' ≡ kept
HasSplitBack (adapted.NotSplit why.AtLevel) m m' kept kept' = kept' ≡ kept
HasSplitBack (adapted.NotSplit why.SiblingRoute) m m' kept kept' = Unit {0}
HasSplitBack (adapted.NotSplit why.TooMany) m m' kept kept' = Unit {0}
HasSplitBack (adapted.NotSplit why.Taken) m m' kept kept' = Unit {0}
HasSplitBack (adapted.NotSplit why.Lost) m m' kept kept' = PutsBack split_forms 1 m m' kept kept'
HasSplitBack (adapted.NotSplit why.NoRow) m m' kept kept' = PutsBack split_forms 0 m m' kept kept'
HasSplitBack (adapted.NotSplit why.Worn) m m' kept kept' = PutsBack split_forms 0 m m' kept kept'
HasSplitBack (adapted.NotJoined why) m m' kept kept' = Unit {0}

-- No exchange of a link was lost: where an exchange was lost, it was that of the pool's head.
abbrev pub IsPoolsLoss : Adapted → MyTree → MyTree → Type 0
IsPoolsLoss a m m' = a ≡ adapted.NotSplit why.Lost → m'.0.upper ≡ m.0.upper
