-- What `update_counter` and `update_element` make of an object's elements, and why they change nothing.
-- Source: the ets manual's text on the two calls; the order of the checks and the bounds on integers and codes are this project's own.
use Rattle.std.specs.Prelude.{ℕ, ◌-◌, ◌^◌, ◌==◌, nat_lt, nat_le, int_lt, int_le, ℤ, pos, negsuc, ◌+ℤ◌, Bool, false, not, ◌&&◌, if◌then◌else◌, Option, None, Some, ok_or, Result, Ok, Err, List, [], ◌∷◌, length, slice_set, slice_index_or}
use Rattle.ca_term.specs.Tree.{Tree, Integer, Atom, Tuple, Nil, Cons, Binary, row_of}
use Rattle.ca_term.specs.Object.{elements_of, fits}

-- why no element is changed
pub data ElementFault : Type 0 where
  -- there is no such element, or it is the key, or no integer where one is wanted
  BadArgument : ElementFault
  -- a value that would be stored has more than 64 bits
  OutOfRange : ElementFault
  -- the new object's code has more bytes than it may have
  TooLarge : ElementFault

-- An operation on a counter: the position of its element, counted from 1, what is added, and where there is a cap, a threshold with the value
-- that takes the place of a sum past it.
pub record Addition : Type 0 where
  pub position : ℤ
  pub increment : ℤ
  pub cap : Option (ℤ × ℤ)

-- what follows where a check passes
abbrev pub and_then : {A B : Type 0} → Result A ElementFault → (A → Result B ElementFault) → Result B ElementFault
and_then (Ok x) further = further x
and_then (Err fault) further = Err fault

-- ---- positions

-- a position that may be changed: at least 1, and not the key's
abbrev pub is_open : ℕ → ℤ → Bool
is_open keypos (pos n) = nat_le 1 n && not (n == keypos)
is_open keypos (negsuc m) = false

-- the place among so many elements, counted from 0, of a position from 1 to their number
abbrev pub place_of : ℕ → ℤ → Option ℕ
place_of size (pos n) = if nat_le 1 n && nat_le n size then Some (n - 1) else None
place_of size (negsuc m) = None

-- the place of a counter, which isn't the key
abbrev pub counter_place : ℕ → ℕ → ℤ → Option ℕ
counter_place keypos size position = if is_open keypos position then place_of size position else None

-- ---- values

-- the integer that an element is
abbrev pub integer_of : Tree → Option ℤ
integer_of (Integer n) = Some n
integer_of (Atom text) = None
integer_of (Tuple row) = None
integer_of Nil = None
integer_of (Cons head tail) = None
integer_of (Binary bytes) = None

-- an integer of 64 bits
abbrev pub is_word : ℤ → Bool
is_word (pos n) = nat_lt n (2 ^ 63)
is_word (negsuc m) = nat_lt m (2 ^ 63)

-- a sum past the threshold: above it where the increment is at least 0, else below it
abbrev pub is_past : ℤ → ℤ → ℤ → Bool
is_past increment threshold sum = if int_le (pos 0) increment then int_lt threshold sum else int_lt sum threshold

-- a sum, or the value that takes its place
abbrev pub capped_sum : ℤ → Option (ℤ × ℤ) → ℤ → ℤ
capped_sum increment None sum = sum
capped_sum increment (Some cap) sum = if is_past increment cap.0 sum then cap.1 else sum

-- the value that an operation gives a counter
abbrev pub value_of : Addition → ℤ → ℤ
value_of a number = capped_sum a.increment a.cap (number +ℤ a.increment)

-- ---- operations on counters

-- the elements with a value at a place, and the value
abbrev pub count_with : List Tree → ℕ → ℤ → Result (List Tree × ℤ) ElementFault
count_with items at value = if is_word value then Ok (slice_set items at (Integer value), value) else Err OutOfRange

-- an operation on the element at a place
abbrev pub count_at : List Tree → Addition → ℕ → Result (List Tree × ℤ) ElementFault
count_at items a at =
    and_then (ok_or (integer_of (slice_index_or items at Nil)) BadArgument) (λ number. count_with items at (value_of a number))

-- One operation: the elements that it leaves, and the value that it stores.
abbrev pub count : ℕ → List Tree → Addition → Result (List Tree × ℤ) ElementFault
count keypos items a = and_then (ok_or (counter_place keypos (length items) a.position) BadArgument) (count_at items a)

-- a value in front of those of further operations
abbrev pub with_value : ℤ → List Tree × List ℤ → List Tree × List ℤ
with_value value further = (further.0, value ∷ further.1)

-- Operations in order, each on what the one before left: the elements in the end, and the value of each operation.
abbrev pub counts : ℕ → List Tree → List Addition → Result (List Tree × List ℤ) ElementFault
counts keypos items [] = Ok (items, [])
counts keypos items (a ∷ more) =
    and_then (count keypos items a) (λ first. and_then (counts keypos first.0 more) (λ further. Ok (with_value first.1 further)))

-- ---- the new object

-- the object of these elements, where it fits
abbrev pub object_of : List Tree → Result Tree ElementFault
object_of items = if fits (Tuple (row_of items)) then Ok (Tuple (row_of items)) else Err TooLarge

-- `update_counter`: the object after the operations, and their values
abbrev pub update_of_counters : ℕ → Tree → List Addition → Result (Tree × List ℤ) ElementFault
update_of_counters keypos object additions =
    and_then (counts keypos (elements_of object) additions) (λ left. and_then (object_of left.0) (λ new. Ok (new, left.1)))

-- the object alone
abbrev pub object_in : Result (Tree × List ℤ) ElementFault → Result Tree ElementFault
object_in update = and_then update (λ new. Ok new.0)

-- `update_element`: the object with another element at a position
abbrev pub update_of_element : Tree → ℤ → Tree → Result Tree ElementFault
update_of_element object position value =
    and_then (ok_or (place_of (length (elements_of object)) position) BadArgument) (λ at. object_of (slice_set (elements_of object) at value))
