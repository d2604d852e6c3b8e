-- The 37 operators of guards: their names, how many arguments they have, and their values.
-- Source: the Erlang reference manual, "Expressions", and the guard functions of the module erlang; that integers have 64 bits, and that the
-- number of arguments is fixed, is this project's own.
use Rattle.std.specs.Prelude.{ℕ, suc, ℤ, pos, ◌-ℤ◌, neg_ℤ, ◌+ℤ◌, ◌*ℤ◌, int_div, int_rem, unsigned_abs, Bool, true, false, not, ◌&&◌, ◌||◌, ◌==◌, List, [], ◌∷◌, length, slice_index_or, codes, bytes_eq, Option, Some, None, option_map, option_and_then, if◌then◌else◌}
use Rattle.std.specs.Int.{w64, int_bit_and, int_bit_or, int_bit_xor}
use Rattle.std.specs.declared.cmp.Ordering.{Ordering}
use Rattle.std.specs.Ordering.{is_eq, is_ne, is_lt, is_gt, is_le, is_ge}
use Rattle.ca_term.specs.Tree.{Tree, Integer, Atom, Tuple, Nil, Cons, Binary, elements, size}
use Rattle.ca_term.specs.Order.{term_cmp}
use Rattle.ca_term.specs.Updates.{integer_of, is_word, place_of}

-- ---- truth values: the atoms true and false

abbrev pub truth : Bool → Tree
truth true = Atom (codes "true")
truth false = Atom (codes "false")

abbrev pub truth_in : List ℕ → Option Bool
truth_in text = if bytes_eq text (codes "true") then Some true else (if bytes_eq text (codes "false") then Some false else None)

-- the truth value that a term is
abbrev pub truth_of : Tree → Option Bool
truth_of (Integer n) = None
truth_of (Atom text) = truth_in text
truth_of (Tuple row) = None
truth_of Nil = None
truth_of (Cons head tail) = None
truth_of (Binary bytes) = None

-- a term that is a truth value
abbrev pub known_truth : Tree → Option Tree
known_truth t = option_map truth (truth_of t)

-- ---- tests of a term's kind

abbrev pub is_atom : Tree → Bool
is_atom (Integer n) = false
is_atom (Atom text) = true
is_atom (Tuple row) = false
is_atom Nil = false
is_atom (Cons head tail) = false
is_atom (Binary bytes) = false

abbrev pub is_integer : Tree → Bool
is_integer (Integer n) = true
is_integer (Atom text) = false
is_integer (Tuple row) = false
is_integer Nil = false
is_integer (Cons head tail) = false
is_integer (Binary bytes) = false

abbrev pub is_tuple : Tree → Bool
is_tuple (Integer n) = false
is_tuple (Atom text) = false
is_tuple (Tuple row) = true
is_tuple Nil = false
is_tuple (Cons head tail) = false
is_tuple (Binary bytes) = false

-- the empty list, or a list cell, whatever its tail
abbrev pub is_list : Tree → Bool
is_list (Integer n) = false
is_list (Atom text) = false
is_list (Tuple row) = false
is_list Nil = true
is_list (Cons head tail) = true
is_list (Binary bytes) = false

abbrev pub is_binary : Tree → Bool
is_binary (Integer n) = false
is_binary (Atom text) = false
is_binary (Tuple row) = false
is_binary Nil = false
is_binary (Cons head tail) = false
is_binary (Binary bytes) = true

abbrev pub test : (Tree → Bool) → Tree → Option Tree
test holds t = Some (truth (holds t))

-- ---- truth functions: of truth values alone

abbrev pub negation : Tree → Option Tree
negation t = option_map (λ b. truth (not b)) (truth_of t)

abbrev pub connective : (Bool → Bool → Bool) → Tree → Tree → Option Tree
connective f t u = option_and_then (λ a. option_map (λ b. truth (f a b)) (truth_of u)) (truth_of t)

abbrev pub exclusive : Bool → Bool → Bool
exclusive true b = not b
exclusive false b = b

-- ---- comparisons: of all terms, by the term order

abbrev pub comparison : (Ordering → Bool) → Tree → Tree → Option Tree
comparison holds t u = Some (truth (holds (term_cmp t u)))

-- ---- arithmetic: of integers alone, and the value has 64 bits

abbrev pub word : ℤ → Option Tree
word n = if is_word n then Some (Integer n) else None

abbrev pub on_integer : (ℤ → ℤ) → Tree → Option Tree
on_integer f t = option_and_then (λ n. word (f n)) (integer_of t)

abbrev pub on_integers : (ℤ → ℤ → ℤ) → Tree → Tree → Option Tree
on_integers f t u = option_and_then (λ m. option_and_then (λ n. word (f m n)) (integer_of u)) (integer_of t)

-- by a divisor other than 0
abbrev pub on_divisor : (ℤ → ℤ → ℤ) → ℤ → ℤ → Option Tree
on_divisor f m n = if unsigned_abs n == 0 then None else word (f m n)

abbrev pub on_quotient : (ℤ → ℤ → ℤ) → Tree → Tree → Option Tree
on_quotient f t u = option_and_then (λ m. option_and_then (on_divisor f m) (integer_of u)) (integer_of t)

-- ---- parts and sizes

-- element number n of a tuple, counted from 1
abbrev pub element : Tree → Tree → Option Tree
element (Integer n) (Tuple row) = option_map (λ k. slice_index_or (elements row) k Nil) (place_of (size row) n)
element n t = None

abbrev pub head_of : Tree → Option Tree
head_of (Integer n) = None
head_of (Atom text) = None
head_of (Tuple row) = None
head_of Nil = None
head_of (Cons head tail) = Some head
head_of (Binary bytes) = None

abbrev pub tail_of : Tree → Option Tree
tail_of (Integer n) = None
tail_of (Atom text) = None
tail_of (Tuple row) = None
tail_of Nil = None
tail_of (Cons head tail) = Some tail
tail_of (Binary bytes) = None

-- how many elements a proper list has
abbrev pub list_length : Tree → Option ℕ
list_length (Integer n) = None
list_length (Atom text) = None
list_length (Tuple row) = None
list_length Nil = Some 0
list_length (Cons head tail) = option_map suc (list_length tail)
list_length (Binary bytes) = None

abbrev pub tuple_size : Tree → Option ℕ
tuple_size (Integer n) = None
tuple_size (Atom text) = None
tuple_size (Tuple row) = Some (size row)
tuple_size Nil = None
tuple_size (Cons head tail) = None
tuple_size (Binary bytes) = None

abbrev pub byte_size : Tree → Option ℕ
byte_size (Integer n) = None
byte_size (Atom text) = None
byte_size (Tuple row) = None
byte_size Nil = None
byte_size (Cons head tail) = None
byte_size (Binary bytes) = Some (length bytes)

-- the elements of a tuple, the bytes of a binary
abbrev pub either_size : Tree → Option ℕ
either_size (Integer n) = None
either_size (Atom text) = None
either_size (Tuple row) = Some (size row)
either_size Nil = None
either_size (Cons head tail) = None
either_size (Binary bytes) = Some (length bytes)

abbrev pub counted : (Tree → Option ℕ) → Tree → Option Tree
counted count t = option_and_then (λ n. word (pos n)) (count t)

-- ---- the table

-- An operator by the number of its arguments, with its value; it fails where it isn't defined.
pub data Operator : Type 0 where
  One : (Tree → Option Tree) → Operator
  Two : (Tree → Tree → Option Tree) → Operator
  -- of two arguments: where the first one has this truth value it is the value, and the second isn't evaluated; else the second one is the value
  Short : Bool → Operator

abbrev pub operators : List (List ℕ × Operator)
operators =
    (codes "is_atom", One (test is_atom))
    ∷ (codes "is_integer", One (test is_integer))
    ∷ (codes "is_number", One (test is_integer))
    ∷ (codes "is_tuple", One (test is_tuple))
    ∷ (codes "is_list", One (test is_list))
    ∷ (codes "is_binary", One (test is_binary))
    ∷ (codes "not", One negation)
    ∷ (codes "and", Two (connective ◌&&◌))
    ∷ (codes "or", Two (connective ◌||◌))
    ∷ (codes "xor", Two (connective exclusive))
    ∷ (codes "andalso", Short false)
    ∷ (codes "orelse", Short true)
    ∷ (codes ">", Two (comparison is_gt))
    ∷ (codes ">=", Two (comparison is_ge))
    ∷ (codes "<", Two (comparison is_lt))
    ∷ (codes "=<", Two (comparison is_le))
    ∷ (codes "==", Two (comparison is_eq))
    ∷ (codes "=:=", Two (comparison is_eq))
    ∷ (codes "/=", Two (comparison is_ne))
    ∷ (codes "=/=", Two (comparison is_ne))
    ∷ (codes "+", Two (on_integers ◌+ℤ◌))
    ∷ (codes "-", Two (on_integers ◌-ℤ◌))
    ∷ (codes "*", Two (on_integers ◌*ℤ◌))
    ∷ (codes "div", Two (on_quotient int_div))
    ∷ (codes "rem", Two (on_quotient int_rem))
    ∷ (codes "abs", One (on_integer (λ n. pos (unsigned_abs n))))
    ∷ (codes "band", Two (on_integers (int_bit_and w64)))
    ∷ (codes "bor", Two (on_integers (int_bit_or w64)))
    ∷ (codes "bxor", Two (on_integers (int_bit_xor w64)))
    ∷ (codes "bnot", One (on_integer (λ n. neg_ℤ n -ℤ pos 1)))
    ∷ (codes "element", Two element)
    ∷ (codes "hd", One head_of)
    ∷ (codes "tl", One tail_of)
    ∷ (codes "length", One (counted list_length))
    ∷ (codes "size", One (counted either_size))
    ∷ (codes "tuple_size", One (counted tuple_size))
    ∷ (codes "byte_size", One (counted byte_size))
    ∷ []

abbrev pub operator_in : List (List ℕ × Operator) → List ℕ → Option Operator
operator_in [] name = None
operator_in (entry ∷ others) name = if bytes_eq name entry.0 then Some entry.1 else operator_in others name

-- the operator of this name
unfoldable pub operator_of : List ℕ → Option Operator
operator_of name = operator_in operators name

abbrev pub count_of : Operator → ℕ
count_of (One f) = 1
count_of (Two f) = 2
count_of (Short stop) = 2

-- the value of two arguments of which the first is a truth value, by the one that stops; the second must be one too where it is evaluated
abbrev pub short : Bool → Option Tree → Bool → Option Tree
short true second true = Some (truth true)
short true second false = option_and_then known_truth second
short false second true = option_and_then known_truth second
short false second false = Some (truth false)

-- An operator's value at the values of its arguments, of which some may have failed.
abbrev pub applied : Operator → List (Option Tree) → Option Tree
applied (One f) (a ∷ []) = option_and_then f a
applied (Two f) (a ∷ b ∷ []) = option_and_then (λ t. option_and_then (f t) b) a
applied (Short stop) (a ∷ b ∷ []) = option_and_then (λ t. option_and_then (short stop b) (truth_of t)) a
applied operator values = None
