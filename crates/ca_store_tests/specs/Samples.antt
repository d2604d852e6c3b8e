-- Objects that tests make.
use Rattle.std.specs.Prelude.{ℕ, ◌≤◌, List, length, slice_range}
use Rattle.ca_model.specs.StoreMap.{IsPair}
use Rattle.ca_model.specs.Function.{StandsAt}

-- The bytes are an object, and its key stands in them from `start` to `end`.
pub record HasKeyAt (keypos : ℕ) (bytes : List ℕ) (start end : ℕ) : Type 0 where
  pub rising : start ≤ end
  pub inside : end ≤ length bytes
  pub pair : IsPair keypos (slice_range bytes start end, bytes)
  pub stands : StandsAt (slice_range bytes start end) bytes start
