use Rattle.std.proofs.Common.{◌≡◌, ◌++◌, List, ℕ, length}
use Rattle.ca_order.specs.Zeros.{opened}
use Rattle.ca_order.proofs.binaries.unescape.Given as goal

abbrev pub invariant-loop-run : goal.invariant-loop-run
invariant-loop-run l = record {
  left : (inside : List ℕ) × (l.rest ≡ opened inside);
  parts : opened l.inside.items ++ l.rest ≡ l.body;
}

abbrev pub decreases-loop-run : goal.decreases-loop-run
decreases-loop-run l = length l.rest
