-- The nodes of a term's parts.
use Rattle.std.specs.Prelude.{◌≤◌, ◌+◌, List, [], ◌∷◌, length}
use Rattle.std.proofs.Common.{arith}
use denote.Param.Weighed.{most}
use Rattle.ca_term.specs.Tree.{Tree, row_of, list_of, nodes, row_nodes}

-- Each element has fewer nodes than its row and one more.
pub most_le-row : (ts : List Tree) → most (λ k. nodes k + 1) ts ≤ row_nodes (row_of ts) + 1
most_le-row [] = omega arith
most_le-row (t ∷ ts) = omega (arith, most_le-row ts)

-- Each head has fewer nodes than its list.
pub most_le-list : (ts : List Tree) (tail : Tree) → most (λ k. nodes k + 1) ts ≤ nodes (list_of ts tail)
most_le-list [] tail = omega arith
most_le-list (t ∷ ts) tail = omega (arith, most_le-list ts tail)

-- What stands behind a list's heads has as many nodes fewer than the list as there are heads, or less.
pub tail_le-list : (ts : List Tree) (tail : Tree) → nodes tail + length ts ≤ nodes (list_of ts tail)
tail_le-list [] tail = omega arith
tail_le-list (t ∷ ts) tail = omega (arith, tail_le-list ts tail)
