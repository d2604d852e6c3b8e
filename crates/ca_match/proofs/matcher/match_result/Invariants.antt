use Rattle.std.proofs.Common.{◌≡◌}
use Rattle.ca_term.specs.Tree.{nodes}
use Rattle.ca_match.specs.Match.{result_of}
use Rattle.ca_match.proofs.matcher.match_result.Given as goal

abbrev pub invariant-loop-clause : goal.invariant-loop-clause
invariant-loop-clause l = result_of l.spec l.object ≡ result_of l.rest l.object

abbrev pub decreases-loop-clause : goal.decreases-loop-clause
decreases-loop-clause l = nodes l.rest
