-- Objects, their keys, and what fits into a table.
-- Source: the ets manual: an object is a tuple, and the option `keypos` names the element that is its key.
use Rattle.std.specs.Prelude.{ℕ, Bool, false, nat_le, ◌-◌, List, [], length, slice_index_or}
use Rattle.ca_term.specs.Tree.{Tree, Integer, Atom, Tuple, Nil, Cons, Binary, elements, size}
use Rattle.ca_term.specs.Code.{code_of}
use Rattle.ca_term.specs.declared.bounds.TheConstants.{MOST_CODE_BYTES}

-- a tuple with at least `keypos` elements
abbrev pub is_object : ℕ → Tree → Bool
is_object keypos (Integer n) = false
is_object keypos (Atom text) = false
is_object keypos (Tuple row) = nat_le keypos (size row)
is_object keypos Nil = false
is_object keypos (Cons head tail) = false
is_object keypos (Binary bytes) = false

-- an object's key: element number `keypos`, counted from 1
abbrev pub key_of : ℕ → Tree → Tree
key_of keypos (Integer n) = Nil
key_of keypos (Atom text) = Nil
key_of keypos (Tuple row) = slice_index_or (elements row) (keypos - 1) Nil
key_of keypos Nil = Nil
key_of keypos (Cons head tail) = Nil
key_of keypos (Binary bytes) = Nil

-- an object's elements
abbrev pub elements_of : Tree → List Tree
elements_of (Integer n) = []
elements_of (Atom text) = []
elements_of (Tuple row) = elements row
elements_of Nil = []
elements_of (Cons head tail) = []
elements_of (Binary bytes) = []

-- An object or a key fits where its byte code has no more bytes than it may have.
abbrev pub fits : Tree → Bool
fits t = nat_le (length (code_of t)) MOST_CODE_BYTES
