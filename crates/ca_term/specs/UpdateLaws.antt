-- What an update leaves of an object.
use Rattle.std.specs.Prelude.{◌≡◌, ℕ, ◌≤◌, ◌<◌, ℤ, true, List, IfOk, IsTrue}
use Rattle.ca_term.specs.declared.bounds.TheConstants.{MOST_DEPTH}
use Rattle.ca_term.specs.Tree.{Tree, IsTerm, depth}
use Rattle.ca_term.specs.Object.{is_object, key_of, fits}
use Rattle.ca_term.specs.Updates.{Addition, is_open, update_of_counters, update_of_element}

-- an object that fits, with the same key
pub record KeepsKey (keypos : ℕ) (old new : Tree) : Type 0 where
  pub bounded : IsTerm new
  pub object : is_object keypos new ≡ true
  pub key_is : key_of keypos new ≡ key_of keypos old
  pub small : fits new ≡ true

-- Operations on counters of an object keep its key.
abbrev pub CountersKeepKeys : Type 0
CountersKeepKeys = (keypos : ℕ) (old : Tree) (additions : List Addition) → 1 ≤ keypos → IsTerm old → is_object keypos old ≡ true
    → IfOk (update_of_counters keypos old additions) (λ new. KeepsKey keypos old new.0)

-- Another element in an object keeps its key, where the position may be changed and the element isn't too deep.
abbrev pub ElementsKeepKeys : Type 0
ElementsKeepKeys = (keypos : ℕ) (old : Tree) (position : ℤ) (value : Tree) → 1 ≤ keypos → IsTerm old → is_object keypos old ≡ true
    → IsTrue (is_open keypos position) → IsTerm value → depth value < MOST_DEPTH → IfOk (update_of_element old position value) (KeepsKey keypos old)
