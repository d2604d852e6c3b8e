-- The term of a result, as it is told.
use Rattle.ca_term.specs.Tree.{Tree}
use Rattle.ca_order.specs.CodesView.{tree_of}
use Rattle.ca_spec.specs.declared.found.Found.{Found}
use Rattle.ca_spec.specs.declared.found.Found.TheVariants as found

abbrev pub tree_of_found : Found → Tree
tree_of_found (found.Coded part) = tree_of part
tree_of_found (found.Made term) = term
