use Rattle.ca_order.proofs.AtomParts.{IsRead}
use Rattle.ca_order.proofs.atoms.read_text.Given as goal

abbrev pub invariant-loop-step : goal.invariant-loop-step
invariant-loop-step l = IsRead l.room l.bytes l.rest

abbrev pub decreases-loop-step : goal.decreases-loop-step
decreases-loop-step l = l.room
