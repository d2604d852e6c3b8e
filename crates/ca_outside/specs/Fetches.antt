-- The fetches that were made from a shelf, as they are logged.
use Rattle.std.specs.Prelude.{ℕ, List, [], ◌∷◌, ◌++◌, map, Option, None, Some, Result, if◌then◌else◌}
use Rattle.std.specs.String.{string_bytes}
use Rattle.ca_outside.specs.declared.fetch_log.Fetch.{Fetch}
use Rattle.ca_outside.specs.declared.fetch_log.FetchLog.{FetchLog}
use Rattle.ca_outside.specs.declared.shelf.FetchFault.{FetchFault}

-- a fetch: the name, and how it ended
pub record Fetched : Type 0 where
  pub name : List ℕ
  pub end : Result (Unit {0}) FetchFault

abbrev pub fetched : List ℕ → Result (Unit {0}) FetchFault → Fetched
fetched name end = record { name = name; end = end }

-- a log with a further fetch, where it is told
abbrev pub with_fetch : Option (List Fetched) → Fetched → Option (List Fetched)
with_fetch None last = None
with_fetch (Some log) last = Some (log ++ last ∷ [])

abbrev pub fetched_of : Fetch → Fetched
fetched_of fetch = fetched (string_bytes fetch.name) fetch.end

-- the fetches so far, where each of them found memory for its entry
abbrev pub told_fetches : FetchLog → Option (List Fetched)
told_fetches log = if log.whole then Some (map fetched_of log.made.items) else None
