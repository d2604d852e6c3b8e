-- What an attempt to write at the end of a list of bytes leaves.
use Rattle.std.specs.Prelude.{◌≡◌, ℕ, List, ◌++◌}

-- one list begins with another
pub record BeginsWith (all front : List ℕ) : Type 0 where
  pub rest : List ℕ
  pub whole : all ≡ front ++ rest
