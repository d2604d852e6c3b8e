-- What `update_counter` and `update_element` ask for: how their arguments are read.
-- Source: the ets manual's text on the two calls.
use Rattle.std.specs.Prelude.{ℕ, ◌+◌, ℤ, pos, Option, None, Some, List, [], ◌∷◌, if◌then◌else◌}
use Rattle.std.specs.Option.{option_map}
use Rattle.ca_term.specs.Tree.{Tree, Integer, Atom, Tuple, Nil, Cons, Binary, elements}
use Rattle.ca_term.specs.Object.{elements_of}
use Rattle.ca_term.specs.Updates.{Addition, integer_of, is_open}

-- the operations of an `update_counter`: one alone, or a list of them
pub data Operations : Type 0 where
  One : Addition → Operations
  Several : List Addition → Operations

-- There are several operations, or a list of none.
abbrev pub AreSeveral : Operations → Type 0
AreSeveral (One a) = ⊥
AreSeveral (Several additions) = Unit {0}

-- the operations, in order
abbrev pub additions_of : Operations → List Addition
additions_of (One a) = a ∷ []
additions_of (Several additions) = additions

-- a threshold and the value that takes a sum's place
abbrev pub cap_of : Option ℤ → Option ℤ → Option (ℤ × ℤ)
cap_of (Some threshold) (Some value) = Some (threshold, value)
cap_of (Some threshold) None = None
cap_of None value = None

-- an operation without a threshold
abbrev pub plain_addition : Option ℤ → Option ℤ → Option Addition
plain_addition (Some position) (Some increment) = Some (record { position = position; increment = increment; cap = None })
plain_addition (Some position) None = None
plain_addition None increment = None

-- an operation with a threshold
abbrev pub capped_addition : Option ℤ → Option ℤ → Option (ℤ × ℤ) → Option Addition
capped_addition (Some position) (Some increment) (Some cap) = Some (record { position = position; increment = increment; cap = Some cap })
capped_addition (Some position) (Some increment) None = None
capped_addition (Some position) None cap = None
capped_addition None increment cap = None

-- the operation {Pos,Incr} or {Pos,Incr,Threshold,SetValue} of these elements, all integers
abbrev pub addition_in : List Tree → Option Addition
addition_in (p ∷ i ∷ []) = plain_addition (integer_of p) (integer_of i)
addition_in (p ∷ i ∷ t ∷ v ∷ []) = capped_addition (integer_of p) (integer_of i) (cap_of (integer_of t) (integer_of v))
addition_in items = None

-- an operation before others
abbrev pub one_more : Option Addition → Option (List Addition) → Option (List Addition)
one_more (Some a) (Some additions) = Some (a ∷ additions)
one_more (Some a) None = None
one_more None additions = None

-- the operations of a proper list
abbrev pub additions_in : Tree → Option (List Addition)
additions_in (Integer n) = None
additions_in (Atom text) = None
additions_in (Tuple row) = None
additions_in Nil = Some []
additions_in (Cons head tail) = one_more (addition_in (elements_of head)) (additions_in tail)
additions_in (Binary bytes) = None

-- The argument is a list with an element, proper or not.
abbrev pub IsFilledList : Tree → Type 0
IsFilledList (Integer n) = ⊥
IsFilledList (Atom text) = ⊥
IsFilledList (Tuple row) = ⊥
IsFilledList Nil = ⊥
IsFilledList (Cons head tail) = Unit {0}
IsFilledList (Binary bytes) = ⊥

-- The operations that the argument of `update_counter` asks for, if it is of its form. An integer alone is added to the element behind the key.
abbrev pub operations_of : ℕ → Tree → Option Operations
operations_of keypos (Integer n) = Some (One (record { position = pos (keypos + 1); increment = n; cap = None }))
operations_of keypos (Atom text) = None
operations_of keypos (Tuple row) = option_map One (addition_in (elements row))
operations_of keypos Nil = Some (Several [])
operations_of keypos (Cons head tail) = option_map Several (additions_in (Cons head tail))
operations_of keypos (Binary bytes) = None

-- a position that may be changed, with the value
abbrev pub open_position : ℕ → Option ℤ → Tree → Option (ℤ × Tree)
open_position keypos (Some position) value = if is_open keypos position then Some (position, value) else None
open_position keypos None value = None

abbrev pub position_in : ℕ → List Tree → Option (ℤ × Tree)
position_in keypos (p ∷ value ∷ []) = open_position keypos (integer_of p) value
position_in keypos items = None

-- The position and the value that the argument {Pos,Value} of `update_element` asks for, if it is of its form.
abbrev pub element_of : ℕ → Tree → Option (ℤ × Tree)
element_of keypos op = position_in keypos (elements_of op)
