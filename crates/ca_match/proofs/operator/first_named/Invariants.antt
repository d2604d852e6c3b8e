-- The operators up to here have other names.
use Rattle.std.proofs.Common.{◌≡◌, drop}
use Rattle.ca_match.specs.OperatorView.{named_in}
use Rattle.ca_match.proofs.operator.first_named.Given as goal

abbrev pub invariant-loop-operator : goal.invariant-loop-operator
invariant-loop-operator l = named_in l.operators l.name ≡ named_in (drop l.operator-index l.operators) l.name
