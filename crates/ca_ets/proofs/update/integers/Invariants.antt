use Rattle.std.proofs.Common.{◌≡◌, map, take}
use Rattle.ca_term.specs.Tree.{Integer}
use Rattle.ca_ets.proofs.update.integers.Given as goal

abbrev pub invariant-loop-value : goal.invariant-loop-value
invariant-loop-value l = l.terms.items ≡ map Integer (take l.value-index l.values)
