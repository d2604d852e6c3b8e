use Rattle.std.proofs.Common.{◌≡◌}
use Rattle.ca_term.specs.Tree.{nodes}
use Rattle.ca_match.specs.Match.{pass}
use Rattle.ca_match.specs.MatcherView.{scene_of}
use Rattle.ca_match.proofs.matcher.pass.Given as goal

abbrev pub invariant-loop-guard : goal.invariant-loop-guard
invariant-loop-guard l = pass (scene_of l.object l.table) l.guards ≡ pass (scene_of l.object l.table) l.rest

abbrev pub decreases-loop-guard : goal.decreases-loop-guard
decreases-loop-guard l = nodes l.rest
