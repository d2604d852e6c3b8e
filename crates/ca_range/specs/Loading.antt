-- How many links a pass loads as it helps others, and as it gathers bases.
use Rattle.std.specs.Prelude.{ℕ, ◌+◌, ◌*◌, ◌≤◌}
use Rattle.ca_node.specs.TreeView.{TreeView}
use Rattle.ca_rows.specs.declared.sizes.Sizes.{Sizes}
use Rattle.ca_range.specs.Farther.{reach, room}
use Rattle.ca_range.specs.declared.filling.Step.{Step}
use Rattle.ca_range.specs.declared.filling.Step.TheVariants as step
use Rattle.ca_range.specs.declared.gathering.Further.{Further}
use Rattle.ca_range.specs.declared.gathering.Further.TheVariants as further
use Rattle.ca_range.specs.declared.sought.Snapped.TheVariants as snapped

-- as many links as help loads at most: those of a walk to each base that it goes along, each of which goes farther than the one before, so that they are no
-- more than there are keys; and both links of a join
abbrev pub help_loads : Sizes → ℕ
help_loads z = (z.levels + 1) * room 1000 + 2

-- So many walks were made, each to a base that goes farther than the one before, and no other link was loaded.
abbrev pub GoesBy : Sizes → TreeView → TreeView → Type 0
GoesBy z u v = (walks : ℕ) × (walks + reach u ≤ reach v) × (reach v ≤ room 1000) × (v.loads ≤ u.loads + (z.levels + 1) * walks)

-- So it was until the help ended, by which both links of a join were loaded, at most.
abbrev pub EndsBy : Sizes → TreeView → TreeView → Type 0
EndsBy z u v = (walks : ℕ) × (walks + reach u ≤ room 1000) × (v.loads ≤ u.loads + (z.levels + 1) * walks + 2)

-- By what a step of help came to.
abbrev pub StepsBy : Sizes → Step → TreeView → TreeView → Type 0
StepsBy z (step.Marked next) u v = GoesBy z u v
StepsBy z (step.Met next) u v = GoesBy z u v
StepsBy z (step.Ended helped) u v = EndsBy z u v

-- By a step that gathers a base more: so many links were loaded where it goes on, at most. Where the range ended, what was in its way was helped at most, and
-- one walk was made before, to a base that goes farther.
abbrev pub GathersBy : Sizes → ℕ → Further → TreeView → TreeView → Type 0
GathersBy z links (further.On next) u v = v.loads ≤ u.loads + links
GathersBy z links (further.Ended end) u v = EndsBy z u v

-- as many links as a snapshot loads at most: those of the walk to its first base, and behind it no more than help loads, since each further base that it walks
-- to goes farther than the one before, and so does each that it helps with
abbrev pub snapshot_loads : Sizes → ℕ
snapshot_loads z = help_loads z + (z.levels + 1)

-- as many as its first step loads at most: those of one walk, and where something was in its way those of help, too
abbrev pub begin_loads : Sizes → Further → ℕ
begin_loads z (further.On first) = z.levels + 1
begin_loads z (further.Ended (snapped.Run run)) = z.levels + 1
begin_loads z (further.Ended snapped.Again) = snapshot_loads z
begin_loads z (further.Ended snapped.Busy) = snapshot_loads z
begin_loads z (further.Ended snapped.NoRow) = snapshot_loads z
begin_loads z (further.Ended (snapped.Worn which)) = snapshot_loads z
