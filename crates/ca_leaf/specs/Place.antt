-- Where a thing that is looked for stands in a line, given how the things there stand to it.
use Rattle.std.specs.Prelude.{ℕ, ◌-◌, ◌<◌, ◌≤◌, Result, Ok, Err}
use Rattle.std.specs.declared.cmp.Ordering.{Ordering}
use Rattle.std.specs.declared.cmp.Ordering.TheVariants.{Less, Equal, Greater}

-- A place among so many things of which each stands to one that is looked for as told: one with that, or one between a lesser thing and a greater
-- one, each if there is any.
abbrev pub IsPlaceAmong : (ℕ → Ordering → Type 0) → ℕ → Result ℕ ℕ → Type 0
IsPlaceAmong stands count (Ok at) = (at < count) × stands at Equal
IsPlaceAmong stands count (Err at) = (at ≤ count) × (0 < at → stands (at - 1) Less) × (at < count → stands at Greater)
