-- The places so far have these terms.
use Rattle.std.proofs.Common.{◌≡◌, ◌++◌}
use Rattle.ca_spec.proofs.PartTables.{parts_from}
use Rattle.ca_spec.proofs.fitted.bound_parts.Given as goal

abbrev pub invariant-loop-place : goal.invariant-loop-place
invariant-loop-place l = parts_from l.table 0 ≡ l.terms.items ++ parts_from l.table l.place-index
