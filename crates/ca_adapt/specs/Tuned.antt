-- Tunings beside a space.
use Rattle.std.specs.Prelude.{◌≡◌}
use Rattle.ca_adapt.specs.Allowed.{IsAllowed}
use Rattle.ca_adapt.specs.declared.tuning.Tuning.{Tuning}
use Rattle.ca_rows.specs.declared.sizes.Sizes.{Sizes}

-- The tuning is allowed, and the leaves and the levels of the space are those that it says.
pub record IsTuned (z : Sizes) (t : Tuning) : Type 0 where
  pub allowed : IsAllowed t
  pub leaf : z.leaf ≡ t.leaf
  pub levels : z.levels ≡ t.levels
