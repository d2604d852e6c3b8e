use Rattle.std.proofs.Common.{◌≡◌, ◌*◌, take, pos, neg_ℤ, ◌≤ℤ◌}
use Rattle.ca_cli.specs.Summary.{sum_of}
use Rattle.ca_cli.proofs.summary.sum.Given as goal

-- the sum so far, and how far from 0 it may be
abbrev pub invariant-loop-at : goal.invariant-loop-at
invariant-loop-at l = (l.sum ≡ sum_of (take l.at l.table))
    × (neg_ℤ (pos (9223372036854775808 * l.at)) ≤ℤ l.sum) × (l.sum ≤ℤ pos (9223372036854775808 * l.at))
