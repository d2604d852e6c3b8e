-- What is known of the shelf of the file system.
use Rattle.std.specs.Prelude.{ℕ, List, Option}
use Rattle.ca_outside.specs.Fetches.{Fetched}

pub record DirShelfState : Type 0 where
  -- how often it has failed
  pub faults : ℕ
  -- the fetches so far, where they are told
  pub log : Option (List Fetched)
