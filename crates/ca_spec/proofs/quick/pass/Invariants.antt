-- The guards so far hold.
use Rattle.std.proofs.Common.{◌≡◌}
use Rattle.ca_term.specs.Tree.{Nil, list_of}
use Rattle.ca_match.specs.Match.{pass}
use Rattle.ca_spec.specs.PartBound.{scene_in}
use Rattle.ca_spec.proofs.Values.{pass_from}
use Rattle.ca_spec.proofs.quick.pass.Given as goal

abbrev pub invariant-loop-guard : goal.invariant-loop-guard
invariant-loop-guard l = pass (scene_in l.object l.table) (list_of l.guards Nil) ≡ pass_from (scene_in l.object l.table) l.guards l.guard-index
