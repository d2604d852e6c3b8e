-- How a map of bytes stands for an ordered map of terms.
use Rattle.std.specs.Prelude.{◌≡◌, ℕ, List, map}
use Rattle.ca_term.specs.Tree.{Tree, AreTerms}
use Rattle.ca_term.specs.Code.{code_of}
use Rattle.ca_term.specs.Object.{key_of}
use Rattle.ca_ets.specs.OrderedMap.{IsTable}
use Rattle.ca_model.specs.StoreMap.{Pair, StoreMap}

-- the code of an object's key, and the object's
abbrev pub pair_of : ℕ → Tree → Pair
pair_of keypos object = (code_of (key_of keypos object), code_of object)

-- The store map has the pairs of these objects, and they are an ordered map of terms.
pub record Stands (keypos : ℕ) (store : StoreMap) (table : List Tree) : Type 0 where
  pub codes : store ≡ map (pair_of keypos) table
  pub ordered : IsTable keypos table
  pub bounded : AreTerms table
