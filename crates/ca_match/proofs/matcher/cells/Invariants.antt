use Rattle.std.proofs.Common.{◌≡◌, vec_len, Some}
use Rattle.ca_match.specs.MatcherView.{cells_of}
use Rattle.ca_match.proofs.matcher.cells.Given as goal

abbrev pub invariant-loop-head : goal.invariant-loop-head
invariant-loop-head l = cells_of l.heads.items (Some l.list) ≡ cells_of l.initial.heads.items (Some l.initial.list)

abbrev pub decreases-loop-head : goal.decreases-loop-head
decreases-loop-head l = vec_len l.heads
