-- So far all was the same.
use Rattle.std.proofs.Common.{length}
use Rattle.ca_order.proofs.Fronts.{IsMet}
use Rattle.ca_order.proofs.codes.behind_bytes.Given as goal

abbrev pub invariant-loop-eight : goal.invariant-loop-eight
invariant-loop-eight l = IsMet l.bytes l.front l.rest l.wanted

abbrev pub decreases-loop-eight : goal.decreases-loop-eight
decreases-loop-eight l = length l.wanted
