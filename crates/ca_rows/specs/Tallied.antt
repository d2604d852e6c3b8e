-- What passes count of the splits and joins that they carry out.
use Rattle.std.specs.Prelude.{◌≡◌, ◌+◌, min, Bool, true, false}
use Rattle.ca_rows.specs.declared.tally.Tally.{Tally}

-- What becomes of the tally by the exchange of a split: one split more, where it won, up to the last number that 64 bits hold; or nothing.
abbrev pub HasTallied : Bool → Tally → Tally → Type 0
HasTallied true tally new = new ≡ record tally { splits = min 18446744073709551615 (tally.splits + 1) }
HasTallied false tally new = new ≡ tally

-- What becomes of it by the exchange of a join: one join more, where it won, up to that number; or nothing.
abbrev pub HasTalliedJoin : Bool → Tally → Tally → Type 0
HasTalliedJoin true tally new = new ≡ record tally { joins = min 18446744073709551615 (tally.joins + 1) }
HasTalliedJoin false tally new = new ≡ tally
