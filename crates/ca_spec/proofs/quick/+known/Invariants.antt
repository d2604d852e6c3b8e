-- A guard has more nodes than its arguments.
use Rattle.std.proofs.Common.{◌+◌, ◌*◌}
use Rattle.ca_term.specs.Tree.{nodes}
use Rattle.ca_spec.proofs.quick.+known.Given as goal

abbrev pub decreases-known : goal.decreases-known
decreases-known l = 2 * nodes l.guard.now

abbrev pub decreases-known_short : goal.decreases-known_short
decreases-known_short l = 2 * (nodes l.a.now + nodes l.b.now) + 1

abbrev pub decreases-known_of_one : goal.decreases-known_of_one
decreases-known_of_one l = 2 * nodes l.a.now + 1
