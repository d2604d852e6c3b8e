-- What contracts see of a term's fields.
use Rattle.std.specs.Prelude.{◌≡◌}
use Rattle.std.specs.String.{string_bytes}
use Rattle.ca_term.specs.Tree.{Tree, Integer, Atom, Tuple, Nil, Cons, Binary, row_of, depth, IsTerm}
use Rattle.ca_term.specs.declared.term.Node.{Node}
use Rattle.ca_term.specs.declared.term.Node.TheVariants as node
use Rattle.ca_term.specs.declared.term.Term.TheInside.{Inside}

abbrev pub tree_of : Node → Tree
tree_of (node.Int n) = Integer n
tree_of (node.Atom text) = Atom (string_bytes text)
tree_of (node.Tuple items) = Tuple (row_of items.items)
tree_of node.Nil = Nil
tree_of (node.Cons cell) = Cons cell.value.head cell.value.tail
tree_of (node.Bin bytes) = Binary bytes.items
tree_of (node.ShortAtom text) = Atom text.bytes
tree_of (node.ShortBin bytes) = Binary bytes.items

-- A term is within the bounds, and keeps its depth.
pub record IsKept (term : Inside) : Type 0 where
  pub depth_is : term.depth ≡ depth (tree_of term.node)
  pub bounded : IsTerm (tree_of term.node)
