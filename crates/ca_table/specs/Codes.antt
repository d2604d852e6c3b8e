-- Terms of commands as the bytes that a store is handed.
use Rattle.std.specs.Prelude.{◌≡◌, ℕ, ◌≤◌, ◌<◌, ℤ, true, IsTrue, List, [], ◌∷◌, length, slice_range, Some}
use Rattle.ca_term.specs.Tree.{Tree, IsTerm, depth}
use Rattle.ca_term.specs.Code.{code_of}
use Rattle.ca_term.specs.Object.{is_object, key_of, fits}
use Rattle.ca_term.specs.Updates.{is_open}
use Rattle.ca_term.specs.declared.bounds.TheConstants.{MOST_DEPTH}
use Rattle.ca_ets.specs.Update.{element_of}

-- The bytes are the code of a key that fits.
pub record HasKeyCode (key : Tree) (bytes : List ℕ) : Type 0 where
  pub bounded : IsTerm key
  pub fitting : fits key ≡ true
  pub code_is : bytes ≡ code_of key

-- The bytes are the code of an object that fits, and its key's code stands in them from `start` to `end`.
pub record HasObjectCode (keypos : ℕ) (object : Tree) (bytes : List ℕ) (start end : ℕ) : Type 0 where
  pub bounded : IsTerm object
  pub is : is_object keypos object ≡ true
  pub fitting : fits object ≡ true
  pub code_is : bytes ≡ code_of object
  pub rising : start ≤ end
  pub inside : end ≤ length bytes
  pub key_is : slice_range bytes start end ≡ code_of (key_of keypos object)

-- The argument of `update_element` asks for this value at this position, which may be changed; the value may be an element.
pub record IsAsked (keypos : ℕ) (op : Tree) (position : ℤ) (value : Tree) : Type 0 where
  pub asked : element_of keypos op ≡ Some (position, value)
  pub free : IsTrue (is_open keypos position)
  pub bounded : IsTerm value
  pub shallow : depth value < MOST_DEPTH

-- The terms are one alone, and the bytes are its code.
pub record IsOnly (bytes : List ℕ) (terms : List Tree) : Type 0 where
  pub term : Tree
  pub bounded : IsTerm term
  pub terms_are : terms ≡ term ∷ []
  pub code_is : bytes ≡ code_of term
