use Rattle.std.proofs.Common.{◌≡◌, ◌+◌, ◌≤◌, length, map, take}
use Rattle.ca_term.specs.Tree.{Integer}
use Rattle.ca_table.proofs.reply.filled.Given as goal

abbrev pub invariant-loop-value : goal.invariant-loop-value
invariant-loop-value l = (l.terms.items ≡ map Integer (take l.value-index l.values)) × (length l.values ≤ l.terms.spare + l.value-index)
