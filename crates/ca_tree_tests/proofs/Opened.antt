-- Runs stay open until they are closed.
use Rattle.std.proofs.Common.{Bool, true, false, List, ℕ, []}
use Rattle.ca_model.specs.Known.{Known}
use Rattle.ca_model.specs.Runs.{HandedOut, IsOpen}

pub still_open : (a b : Known) (found : Bool) (into : List ℕ) → HandedOut a b found into → IsOpen b
still_open a b true into h = (h.0, h.2)
still_open a b false into h = ([], h.1)
