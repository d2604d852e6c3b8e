-- What passes count of the splits and joins that they carry out.
use Rattle.std.specs.Prelude.{◌≡◌, min}
use Rattle.ca_rows.specs.declared.tally.Tally.{Tally}
use Rattle.ca_node.specs.TreeView.{TreeView}

-- The tally is what the seat knows: how many splits and joins it carried out, each up to the last number that 64 bits hold.
abbrev pub IsTallied : Tally → TreeView → Type 0
IsTallied tally u = (tally.splits ≡ min 18446744073709551615 u.splits) × (tally.joins ≡ min 18446744073709551615 u.joins)
