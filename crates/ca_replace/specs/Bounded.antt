-- How often a call pins its pass, and how often it looks at the others: by the turns that it spent, and by numbers that are fixed.
use Rattle.std.specs.Prelude.{◌≡◌, ◌⊎◌, ℕ, ◌+◌, ◌-◌, ◌*◌, ◌<◌, ◌≤◌}
use Rattle.ca_node.specs.Told.{MyTree}
use Rattle.ca_range.specs.Clearing.{turns_at}
use Rattle.ca_rows.specs.declared.sizes.Sizes.{Sizes}

-- From one of these moments to the other a pass spent so many turns, pinned so often, and began so many looks at the others.
abbrev pub spent_in : MyTree → MyTree → ℕ
spent_in m m' = turns_at m' - turns_at m

abbrev pub pinned_in : MyTree → MyTree → ℕ
pinned_in m m' = m'.0.pin.pins - m.0.pin.pins

abbrev pub looked_in : MyTree → MyTree → ℕ
looked_in m m' = m'.0.pin.looks - m.0.pin.looks

-- It pinned once, having found the pool's head empty no more often.
abbrev pub PinsNow : MyTree → MyTree → Type 0
PinsNow m m' = (m'.0.pin.pins ≡ m.0.pin.pins + 1) × (m'.0.pin.entered.empty ≡ m.0.empty)

-- It pinned, once and for each turn that it spent once more, at most. As it pinned last it had found the pool's head empty no more often.
pub record IsPaced (m m' : MyTree) : Type 0 where
  pub pins : m.0.pin.pins < m'.0.pin.pins
  pub most : pinned_in m m' ≤ 1 + spent_in m m'
  pub more : turns_at m ≤ turns_at m'
  pub entered : m'.0.pin.entered.empty ≡ m.0.empty

-- A call of a pass that kept so many rows pinned once, and for each turn that it spent once more, at most; and one time more than that only where rows were
-- kept as it began, and it had found the pool's head empty before it pinned last. For each time that it pinned it looked at the others three times, at most.
pub record IsBounded (kept : ℕ) (m m' : MyTree) : Type 0 where
  pub pins : m.0.pin.pins < m'.0.pin.pins
  pub most : (pinned_in m m' ≤ 1 + spent_in m m')
      ⊎ ((0 < kept) × (m.0.empty < m'.0.pin.entered.empty) × (pinned_in m m' ≤ 2 + spent_in m m'))
  pub looks : looked_in m m' ≤ 3 * pinned_in m m'

-- A call pinned once, and looked at the others three times, at most, as rows were given back behind that.
abbrev pub PinsOnce : MyTree → MyTree → Type 0
PinsOnce m m' = (m'.0.pin.pins ≡ m.0.pin.pins + 1) × (looked_in m m' ≤ 3)

-- A read by key is one walk under one pin: it loaded a link more than there are levels, at most.
abbrev pub WalksOnce : Sizes → MyTree → MyTree → Type 0
WalksOnce z m m' = PinsOnce m m' × (m'.0.upper.loads ≤ m.0.upper.loads + (z.levels + 1))

-- It didn't pin, and looked at the others three times, at most, as rows were given back.
abbrev pub PinsNever : MyTree → MyTree → Type 0
PinsNever m m' = (m'.0.pin.pins ≡ m.0.pin.pins) × (looked_in m m' ≤ 3)
