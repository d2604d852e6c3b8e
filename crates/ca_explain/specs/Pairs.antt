-- The pairs of a store map as objects.
use Rattle.std.specs.Prelude.{◌≡◌, ◌↔◌, ℕ, ◌≤◌}
use Rattle.ca_term.specs.Tree.{Tree, IsTerm}
use Rattle.ca_term.specs.Code.{code_of}
use Rattle.ca_term.specs.Object.{key_of}
use Rattle.ca_ets.specs.OrderedMap.{IsEntry}
use Rattle.ca_model.specs.StoreMap.{Pair, IsPair}

-- The pair is the code of an object that fits, under the code of its key.
pub record HasObject (keypos : ℕ) (pair : Pair) : Type 0 where
  pub object : Tree
  pub bounded : IsTerm object
  pub entry : IsEntry keypos object
  pub key_is : pair.0 ≡ code_of (key_of keypos object)
  pub object_is : pair.1 ≡ code_of object

-- The pairs that a store map may hold are exactly those of objects that fit.
abbrev pub PairsAreObjects : Type 0
PairsAreObjects = (keypos : ℕ) (pair : Pair) → 1 ≤ keypos → IsPair keypos pair ↔ HasObject keypos pair
