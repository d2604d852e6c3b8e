-- Each part of a term has fewer nodes than the term.
use Rattle.std.specs.Prelude.{◌≤◌, ◌+◌, max, List, [], ◌∷◌}
use Rattle.std.proofs.Common.{arith}
use denote.Param.Weighed.{most}
use Rattle.ca_term.specs.Tree.{Tree, row_of, nodes, row_nodes}
use Rattle.ca_term.specs.View.{tree_of}
use Rattle.ca_term.specs.declared.term.Node.{Node}
use Rattle.ca_term.specs.declared.term.Node.TheVariants as node
use Rattle.ca_term.specs.declared.term.Term.TheDeep.{deep-Node}

most_le-row_nodes : (ts : List Tree) → most (λ k. nodes k + 1) ts ≤ row_nodes (row_of ts) + 1
most_le-row_nodes [] = omega arith
most_le-row_nodes (t ∷ ts) = omega (arith, most_le-row_nodes ts)

pub deep_le-nodes : (n : Node) → max (deep-Node n) 0 ≤ nodes (tree_of n)
deep_le-nodes (node.Int n) = omega arith
deep_le-nodes (node.Atom text) = omega arith
deep_le-nodes (node.Tuple items) = omega (arith, most_le-row_nodes items.items)
deep_le-nodes node.Nil = omega arith
deep_le-nodes (node.Cons cell) = omega arith
deep_le-nodes (node.Bin bytes) = omega arith
deep_le-nodes (node.ShortAtom text) = omega arith
deep_le-nodes (node.ShortBin bytes) = omega arith
