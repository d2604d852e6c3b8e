-- So far all was the same.
use Rattle.std.proofs.Common.{length}
use Rattle.ca_order.proofs.Fronts.{IsMet}
use Rattle.ca_order.proofs.codes.behind_few.Given as goal

abbrev pub invariant-loop-first : goal.invariant-loop-first
invariant-loop-first l = IsMet l.bytes l.front l.rest l.wanted

abbrev pub decreases-loop-first : goal.decreases-loop-first
decreases-loop-first l = length l.wanted
