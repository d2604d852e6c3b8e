-- The term that a kind and its parts make.
use Rattle.ca_term.specs.Tree.{Tree, Integer, Atom, Tuple, Nil, Cons, Binary, row_of}
use Rattle.ca_term.specs.declared.term.Kind.{Kind}
use Rattle.ca_term.specs.declared.term.Kind.TheVariants as kind

abbrev pub tree_of_kind : Kind → Tree
tree_of_kind (kind.Int value) = Integer value
tree_of_kind (kind.Atom text) = Atom text.now
tree_of_kind (kind.Tuple items) = Tuple (row_of items.now)
tree_of_kind kind.Nil = Nil
tree_of_kind (kind.Cons head tail) = Cons head.now tail.now
tree_of_kind (kind.Bin bytes) = Binary bytes.now
