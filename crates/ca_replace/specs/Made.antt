-- What trees are made with.
use Rattle.std.specs.Prelude.{ℕ}
use Rattle.ca_adapt.specs.declared.tuning.Tuning.{Tuning}
use Rattle.ca_rows.specs.declared.sizes.Sizes.{Sizes}
use Rattle.ca_rows.specs.declared.sizes.Starts.{Starts}

-- the sizes of a space with this tuning
abbrev pub sizes_with : ℕ → ℕ → ℕ → Tuning → Starts → Sizes
sizes_with rows passes keypos t starts = record { rows = rows; passes = passes; keypos = keypos; leaf = t.leaf; levels = t.levels; starts = starts }
