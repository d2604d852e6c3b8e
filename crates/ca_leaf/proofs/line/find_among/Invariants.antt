use Rattle.std.proofs.Common.{◌-◌, ◌<◌, ◌≤◌}
use Rattle.std.specs.declared.cmp.Ordering.TheVariants.{Less, Greater}
use Rattle.ca_leaf.proofs.line.find_among.Given as goal

-- The place is not below `low`, and not above `high`.
abbrev pub invariant-loop-low : goal.invariant-loop-low
invariant-loop-low g l = (l.low ≤ l.high) × (l.high ≤ l.count)
    × g.L.Line.goes_on l.line l.fn.source l.source
    × (0 < l.low → g.L.Line.stands l.line l.fn.source (l.low - 1) Less)
    × (l.high < l.count → g.L.Line.stands l.line l.fn.source l.high Greater)

abbrev pub decreases-loop-low : goal.decreases-loop-low
decreases-loop-low g l = l.high - l.low
