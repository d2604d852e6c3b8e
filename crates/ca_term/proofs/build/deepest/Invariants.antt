use Rattle.std.proofs.Common.{◌≡◌, max, drop}
use Rattle.ca_term.specs.Tree.{row_of, row_depth}
use Rattle.ca_term.proofs.build.deepest.Given as goal

abbrev pub invariant-loop-item : goal.invariant-loop-item
invariant-loop-item l = max l.deepest (row_depth (row_of (drop l.item-index l.items))) ≡ row_depth (row_of l.items)
