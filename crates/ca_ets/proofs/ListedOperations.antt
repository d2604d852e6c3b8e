-- The operations of a list, read from the left.
use Rattle.std.proofs.Common.{List, ◌++◌, Option, None, Some}
use Rattle.ca_term.specs.Updates.{Addition}

-- operations before others
abbrev pub behind : List Addition → Option (List Addition) → Option (List Addition)
behind additions (Some more) = Some (additions ++ more)
behind additions None = None
