use Rattle.std.proofs.Common.{length}
use Rattle.ca_term.specs.Code.{escaped}
use Rattle.ca_order.proofs.Put.{IsPut}
use Rattle.ca_order.proofs.writing.put_escaped.Given as goal

abbrev pub invariant-loop-run : goal.invariant-loop-run
invariant-loop-run l = IsPut l.into.items (escaped l.rest) l.initial.into.items (escaped l.bytes)

abbrev pub decreases-loop-run : goal.decreases-loop-run
decreases-loop-run l = length l.rest
