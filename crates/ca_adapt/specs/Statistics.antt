-- How a base's statistic moves, and what is due by it.
use Rattle.std.specs.Prelude.{◌≡◌, ◌⊎◌, ℕ, ◌<◌, ◌≤◌, Bool, ℤ, ◌<ℤ◌, ◌≤ℤ◌, ◌+ℤ◌, pos, cond}
use Rattle.ca_adapt.specs.declared.statistic.Due.{Due}
use Rattle.ca_adapt.specs.declared.statistic.Due.TheVariants as due
use Rattle.ca_adapt.specs.declared.tuning.Tuning.{Tuning}
use Rattle.ca_adapt.specs.Allowed.{IsWithin}

-- The word for a statistic in a base's row: so much above 2 to the power of 32.
abbrev pub IsWordOf : ℤ → ℕ → Type 0
IsWordOf statistic word = pos word ≡ statistic +ℤ pos 4294967296

-- It is the word of a statistic of 32 bits.
abbrev pub IsOne : ℕ → Type 0
IsOne word = (2147483648 ≤ word) × (word < 6442450944)

-- The statistic that the word is for, or 0 where it is none's.
abbrev pub IsStatisticOf : ℕ → ℤ → Type 0
IsStatisticOf word statistic = (IsOne word × IsWordOf statistic word) ⊎ ((¬ IsOne word) × (statistic ≡ pos 0))

-- What is kept of a statistic: it, or 0 where it is outside of its bounds.
abbrev pub IsKept : Tuning → ℤ → ℤ → Type 0
IsKept t statistic kept = (IsWithin t.low t.high statistic × (kept ≡ statistic)) ⊎ ((¬ IsWithin t.low t.high statistic) × (kept ≡ pos 0))

-- An update that lost an exchange of a link, or none, makes this of it.
abbrev pub IsAfter : Tuning → ℤ → Bool → ℤ → Type 0
IsAfter t statistic lost after = (kept : ℤ) × IsKept t statistic kept × (after ≡ kept +ℤ cond lost t.lost t.calm)

-- A range that goes on past the base makes this of it: no less than the lower bound.
abbrev pub IsPast : Tuning → ℤ → ℤ → Type 0
IsPast t statistic past = (kept : ℤ) × IsKept t statistic kept
    × (((t.low ≤ℤ (kept +ℤ t.range)) × (past ≡ kept +ℤ t.range)) ⊎ (((kept +ℤ t.range) <ℤ t.low) × (past ≡ t.low)))

-- The one word is for what a range makes of the statistic that the other one is for.
abbrev pub IsPastWord : Tuning → ℕ → ℕ → Type 0
IsPastWord t word past = (old : ℤ) × (new : ℤ) × IsStatisticOf word old × IsPast t old new × IsWordOf new past

-- This is due by a statistic: a split above the upper bound, a join below the lower one, and else nothing.
abbrev pub IsDue : Tuning → ℤ → Due → Type 0
IsDue t statistic due.Nothing = IsWithin t.low t.high statistic
IsDue t statistic due.Split = t.high <ℤ statistic
IsDue t statistic due.Join = (statistic <ℤ t.low) × ¬ (t.high <ℤ statistic)
