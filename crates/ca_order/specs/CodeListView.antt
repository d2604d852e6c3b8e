-- A list of terms by their codes, and the bytes that hold these.
use Rattle.std.specs.Prelude.{◌≡◌, List, length}
use Rattle.ca_term.specs.Tree.{Tree}
use Rattle.ca_order.specs.declared.list.CodeList.TheInside.{Inside}

abbrev pub terms_in : Inside → List Tree
terms_in list = list.codes.0

-- The terms were counted.
abbrev pub IsCounted : Inside → Type 0
IsCounted list = list.count ≡ length list.codes.0
