-- Which tunings are allowed.
use Rattle.std.specs.Prelude.{◌≤◌, ℤ, ◌≤ℤ◌, pos, neg_ℤ}
use Rattle.ca_adapt.specs.declared.tuning.Tuning.{Tuning}

-- The number is neither below nor above these bounds.
abbrev pub IsWithin : ℤ → ℤ → ℤ → Type 0
IsWithin least most number = (least ≤ℤ number) × (number ≤ℤ most)

-- No step of the statistic is too large.
abbrev pub MovesWithin : Tuning → Type 0
MovesWithin t = IsWithin (pos 0) (pos 1000000) t.lost × IsWithin (neg_ℤ (pos 1000000)) (pos 1000000) t.calm
    × IsWithin (neg_ℤ (pos 1000000)) (pos 0) t.range

-- The bounds of the statistic have 0 between them, and aren't too far from it.
abbrev pub IsWide : Tuning → Type 0
IsWide t = IsWithin (pos 0) (pos 1000000) t.high × IsWithin (neg_ℤ (pos 1000000)) (pos 0) t.low

pub record IsAllowed (t : Tuning) : Type 0 where
  pub least_leaf : 2 ≤ t.leaf
  pub most_leaf : t.leaf ≤ 120
  pub most_levels : t.levels ≤ 4096
  pub moves : MovesWithin t
  pub wide : IsWide t
