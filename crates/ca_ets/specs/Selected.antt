-- What an object gives.
use Rattle.std.specs.Prelude.{◌≡◌, Bool, is_some}
use Rattle.ca_term.specs.Tree.{Tree}
use Rattle.ca_match.specs.Match.{result_of}

-- Whether a specification gives an object a result.
abbrev pub HasFound : Tree → Tree → Bool → Type 0
HasFound specification object found = found ≡ is_some (result_of specification object)
