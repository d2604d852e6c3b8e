use Rattle.std.proofs.Common.{◌≤◌, List, ℕ, length}
use Rattle.ca_order.specs.KeyParts.{HasCodes}
use Rattle.ca_order.proofs.object.skip.Given as goal

abbrev pub invariant-loop-pending : goal.invariant-loop-pending
invariant-loop-pending l = record {
  codes : (end : List ℕ) → HasCodes l.count l.bytes end → HasCodes l.pending l.rest end;
  shorter : length l.rest ≤ length l.bytes;
}

abbrev pub decreases-loop-pending : goal.decreases-loop-pending
decreases-loop-pending l = length l.rest
