-- What an output was given.
use Rattle.std.specs.Prelude.{ℕ, List, Option}

pub record OutputState : Type 0 where
  -- the bytes that the writer holds, where they are known
  pub written : Option (List ℕ)
  pub faults : ℕ
