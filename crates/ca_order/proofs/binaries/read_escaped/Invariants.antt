use Rattle.std.proofs.Common.{length}
use Rattle.ca_order.proofs.BinaryParts.{IsOpened}
use Rattle.ca_order.proofs.binaries.read_escaped.Given as goal

abbrev pub invariant-loop-behind : goal.invariant-loop-behind
invariant-loop-behind l = IsOpened l.bytes l.rest

abbrev pub decreases-loop-behind : goal.decreases-loop-behind
decreases-loop-behind l = length l.rest
