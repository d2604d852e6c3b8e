-- Updates of a key's object, by the object's code.
use Rattle.std.specs.Prelude.{◌≡◌, ℕ, ◌≤◌, ℤ, Bool, true, false, List, None, Some, Result, Ok, Err, IfOk}
use Rattle.ca_term.specs.Tree.{Tree, Row, Tuple}
use Rattle.ca_term.specs.Code.{code_of}
use Rattle.ca_term.specs.Object.{is_object, key_of}
use Rattle.ca_term.specs.Updates.{ElementFault, Addition, object_in, update_of_counters, update_of_element}
use Rattle.ca_term.specs.UpdateLaws.{KeepsKey}
use Rattle.ca_order.specs.Patches.{IsTupleCode, IsPatched}
use Rattle.ca_order.specs.declared.patched.Patched.{Patched}
use Rattle.ca_model.specs.declared.outcome.Changed.{Changed}
use Rattle.ca_model.specs.declared.outcome.Changed.TheVariants as changed
use Rattle.ca_model.specs.Event.{Change}
use Rattle.ca_model.specs.Function.{StandsAt}
use Rattle.ca_model.specs.Known.{Known, Meets}

-- the code of an object, whose key is its element `keypos`, counted from 1
pub record IsObjectCode (keypos : ℕ) (row : Row) (code : List ℕ) : Type 0 where
  pub positive : 1 ≤ keypos
  pub object : is_object keypos (Tuple row) ≡ true
  pub is_code : IsTupleCode row code

-- ---- updates

-- what an update makes of an object
abbrev pub Update : Type 0
Update = Tree → Result Tree ElementFault

abbrev pub by_operations : ℕ → List Addition → Update
by_operations keypos additions object = object_in (update_of_counters keypos object additions)

abbrev pub by_element : ℤ → Tree → Update
by_element position value object = update_of_element object position value

-- The answer and the bytes are those of an update of this object, which keeps its key.
pub record IsUpdate (keypos : ℕ) (old : Tree) (update : Result Tree ElementFault) (answer : Patched) (bytes : List ℕ) : Type 0 where
  pub positive : 1 ≤ keypos
  pub patched : IsPatched update answer bytes
  pub keeps : IfOk update (KeepsKey keypos old)

-- The bytes are the new object's, which has the key of the old one; its code begins there at this byte.
pub record IsWritten (keypos : ℕ) (old new : Tree) (bytes : List ℕ) (at : ℕ) : Type 0 where
  pub keeps : KeepsKey keypos old new
  pub code_is : bytes ≡ code_of new
  pub key_stands : StandsAt (code_of (key_of keypos new)) bytes at

-- Whether the update leaves an object, which was written then.
abbrev pub Renews : ℕ → Tree → Result Tree ElementFault → Bool → List ℕ → ℕ → Type 0
Renews keypos old (Ok new) true bytes at = IsWritten keypos old new bytes at
Renews keypos old (Ok new) false bytes at = ⊥
Renews keypos old (Err fault) true bytes at = ⊥
Renews keypos old (Err fault) false bytes at = Unit {0}

-- ---- through a store

module _ (a b : Known) (key : List ℕ) (update : Update) where
  -- The key's object is these bytes, and what the update leaves of it took its place.
  pub record IsPut (bytes : List ℕ) : Type 0 where
    pub row : Row
    pub object : IsObjectCode a.keypos row bytes
    pub new : Tree
    pub updated : update (Tuple row) ≡ Ok new
    pub keeps : KeepsKey a.keypos (Tuple row) new
    pub met : Meets a b (Change key (Some bytes) (Some (code_of new)))

  -- The key's object is these bytes, and stays since the update fails.
  pub record IsKept (bytes : List ℕ) : Type 0 where
    pub row : Row
    pub object : IsObjectCode a.keypos row bytes
    pub fault : ElementFault
    pub failed : update (Tuple row) ≡ Err fault
    pub met : Meets a b (Change key (Some bytes) None)

  -- What came of an update of the key's object.
  abbrev pub Updated : Changed → List ℕ → Type 0
  Updated changed.Absent bytes = Meets a b (Change key None None)
  Updated changed.Kept bytes = IsKept bytes
  Updated changed.Put bytes = IsPut bytes
