use Rattle.std.proofs.Common.{◌≡◌}
use Rattle.ca_term.specs.Tree.{nodes}
use Rattle.ca_match.specs.Specification.{is_proper}
use Rattle.ca_spec.proofs.compiler.is_proper.Given as goal

abbrev pub invariant-loop-tail : goal.invariant-loop-tail
invariant-loop-tail l = is_proper l.rest ≡ is_proper l.term

abbrev pub decreases-loop-tail : goal.decreases-loop-tail
decreases-loop-tail l = nodes l.rest
