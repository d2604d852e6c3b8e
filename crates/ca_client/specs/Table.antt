-- The table of a closed tree, whose objects are kept by their codes.
use Rattle.std.specs.Prelude.{◌≡◌, List, map}
use Rattle.ca_term.specs.Tree.{Tree, AreTerms}
use Rattle.ca_term.specs.Code.{code_of}
use Rattle.ca_model.specs.StoreMap.{StoreMap}

-- The objects of the map are the codes of these terms, in the same order.
pub record AreObjectsOf (objects : StoreMap) (table : List Tree) : Type 0 where
  pub codes : map (λ pair. pair.1) objects ≡ map code_of table
  pub bounded : AreTerms table
