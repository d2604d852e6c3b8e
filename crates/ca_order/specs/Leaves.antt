-- The term that a leaf is.
use Rattle.ca_term.specs.Tree.{Tree, Integer, Atom, Nil, Binary}
use Rattle.ca_order.specs.declared.leaves.Leaf.{Leaf}
use Rattle.ca_order.specs.declared.leaves.Leaf.TheVariants as leaf

abbrev pub tree_of_leaf : Leaf → Tree
tree_of_leaf (leaf.Integer value) = Integer value
tree_of_leaf (leaf.Text text) = Atom text.now
tree_of_leaf leaf.Nil = Nil
tree_of_leaf (leaf.Bytes bytes) = Binary bytes.now
