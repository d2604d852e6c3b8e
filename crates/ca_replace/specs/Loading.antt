-- How many links a call loads: by the walks that it begins with, by the turns that it spent, and by how often it pinned.
use Rattle.std.specs.Prelude.{ℕ, ◌+◌, ◌-◌, ◌*◌, ◌≤◌, Bool, true, false, Result, Ok, Err}
use Rattle.ca_base.specs.declared.stop.Stop.TheVariants as stop
use Rattle.ca_model.specs.declared.outcome.Outcome.{Outcome}
use Rattle.ca_model.specs.declared.outcome.Outcome.TheVariants as outcome
use Rattle.ca_node.specs.Told.{MyTree}
use Rattle.ca_node.specs.TreeView.{TreeView}
use Rattle.ca_range.specs.Loading.{help_loads, snapshot_loads}
use Rattle.ca_replace.specs.Bounded.{pinned_in, spent_in}
use Rattle.ca_replace.specs.declared.attempting.Halt.{Halt}
use Rattle.ca_replace.specs.declared.attempting.Halt.TheVariants as halt
use Rattle.ca_rows.specs.declared.sizes.Sizes.{Sizes}

-- as many links as an attempt loads at most that helps others: those of one walk, and those of help
abbrev pub most_loads : Sizes → ℕ
most_loads z = help_loads z + (z.levels + 1)

-- how many links were loaded until the update was carried out, or in all where there was none
abbrev pub loads_by : Bool → TreeView → ℕ
loads_by true u = u.renewal.loads
loads_by false u = u.loads

abbrev pub loads_until : {T E : Type 0} → (T → Bool) → Result T E → TreeView → ℕ
loads_until edits (Ok x) u = loads_by (edits x) u
loads_until edits (Err why) u = u.loads

-- as many as help loads by which no turn is spent: that of an attempt which found no free row, or the pool's tag worn
abbrev pub unpaid_by : Sizes → Halt → ℕ
unpaid_by z (halt.Stopped (stop.Lost exchange)) = 0
unpaid_by z (halt.Stopped stop.Empty) = help_loads z
unpaid_by z (halt.Stopped stop.Worn) = help_loads z
unpaid_by z halt.Deep = 0
unpaid_by z halt.Split = 0
unpaid_by z halt.Helped = 0

abbrev pub unpaid : {T : Type 0} → Sizes → Result T Halt → ℕ
unpaid z (Ok x) = 0
unpaid z (Err why) = unpaid_by z why

-- Until then so many links were loaded, and for each turn that was spent so many more, at most.
abbrev pub LoadsFew : ℕ → ℕ → ℕ → MyTree → MyTree → Type 0
LoadsFew each links until m m' = until ≤ m.0.upper.loads + links + each * spent_in m m'

-- So it is of a call's turns: help and a walk for each that was spent, and the first walk.
abbrev pub LoadsInTurns : {T : Type 0} → (T → Bool) → Sizes → Result T Halt → MyTree → MyTree → Type 0
LoadsInTurns edits z r m m' = LoadsFew (most_loads z) (z.levels + 1 + unpaid z r) (loads_until edits r m'.0.upper) m m'

-- So it is by what became of a call's attempts. One that did it loaded the links of one walk, at most, and no more than an attempt that helps for each turn
-- that it spent, and for each time that it pinned anew; one that is refused no more than that for each turn, and each time that it pinned.
abbrev pub LoadsInAttempts : {T E : Type 0} → (T → Bool) → Sizes → Result T E → MyTree → MyTree → Type 0
LoadsInAttempts edits z (Ok x) m m' = loads_by (edits x) m'.0.upper ≤ m.0.upper.loads + (z.levels + 1) + most_loads z * (spent_in m m' + (pinned_in m m' - 1))
LoadsInAttempts edits z (Err why) m m' = m'.0.upper.loads ≤ m.0.upper.loads + most_loads z * (spent_in m m' + pinned_in m m')

-- The same of a call, by its outcome. What a done one loads behind its update is told by what was due then (`IsAdapted`): nothing, or one walk, and a link more
-- where it was tried to join.
abbrev pub LoadsInCall : {T : Type 0} → (T → Bool) → Sizes → Outcome T → MyTree → MyTree → Type 0
LoadsInCall edits z (outcome.Done x) m m' = LoadsInAttempts {E = Halt} edits z (Ok x) m m'
LoadsInCall edits z (outcome.Busy s) m m' = LoadsInAttempts edits z (Err s) m m'
LoadsInCall edits z (outcome.Full s) m m' = LoadsInAttempts edits z (Err s) m m'
LoadsInCall edits z (outcome.Deep s) m m' = LoadsInAttempts edits z (Err s) m m'
LoadsInCall edits z (outcome.Worn s) m m' = LoadsInAttempts edits z (Err s) m m'

-- as many links as an attempt to read what is within edges loads at most, beside those of its looks to the left: those of one walk, and those of a snapshot
abbrev pub read_loads : Sizes → ℕ
read_loads z = snapshot_loads z + (z.levels + 1)

-- Such an attempt loaded no more than that, and for each turn that it spent, of which each look to the left is one, those of one walk.
abbrev pub LoadsInLook : Sizes → MyTree → MyTree → Type 0
LoadsInLook z m m' = LoadsFew (z.levels + 1) (read_loads z) m'.0.upper.loads m m'

-- So did the attempts of a call, of which each has a pin of its own.
abbrev pub LoadsInRead : Sizes → MyTree → MyTree → Type 0
LoadsInRead z m m' = LoadsFew (z.levels + 1) (read_loads z * pinned_in m m') m'.0.upper.loads m m'
