-- The terms so far and those of the codes that are left are all.
use Rattle.std.proofs.Common.{◌≡◌, ◌++◌, length}
use Rattle.ca_order.specs.CodesView.{terms_of}
use Rattle.ca_order.proofs.list.CodeList.terms.Given as goal

abbrev pub invariant-loop-part : goal.invariant-loop-part
invariant-loop-part l = l.terms.items ++ terms_of l.left ≡ l.self

abbrev pub decreases-loop-part : goal.decreases-loop-part
decreases-loop-part l = length (terms_of l.left)
