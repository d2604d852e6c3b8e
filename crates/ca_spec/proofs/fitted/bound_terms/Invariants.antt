-- The places so far have these terms.
use Rattle.std.proofs.Common.{◌≡◌, ◌++◌}
use Rattle.ca_spec.proofs.Tables.{bound_from}
use Rattle.ca_spec.proofs.fitted.bound_terms.Given as goal

abbrev pub invariant-loop-place : goal.invariant-loop-place
invariant-loop-place l = bound_from l.table 0 ≡ l.terms.items ++ bound_from l.table l.place-index
