-- The guards so far hold.
use Rattle.std.proofs.Common.{◌≡◌}
use Rattle.ca_term.specs.Tree.{Nil, list_of}
use Rattle.ca_match.specs.Match.{pass}
use Rattle.ca_spec.specs.FittedView.{scene_at}
use Rattle.ca_spec.proofs.Values.{pass_from}
use Rattle.ca_spec.proofs.evaluation.pass.Given as goal

abbrev pub invariant-loop-guard : goal.invariant-loop-guard
invariant-loop-guard l = pass (scene_at l.fitted) (list_of l.guards Nil) ≡ pass_from (scene_at l.fitted) l.guards l.guard-index
