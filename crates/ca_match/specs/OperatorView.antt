-- The operators of the code and those of the definition.
use Rattle.std.specs.Prelude.{ℕ, Bool, None, Some, List, codes, map, Option, pos, ◌-ℤ◌, neg_ℤ, ◌+ℤ◌, ◌*ℤ◌, int_div, int_rem, unsigned_abs, true, false, ◌&&◌, ◌||◌}
use Rattle.std.specs.Int.{w64, int_bit_and, int_bit_or, int_bit_xor}
use Rattle.std.specs.Ordering.{is_eq, is_ne, is_lt, is_gt, is_le, is_ge}
use Rattle.ca_match.specs.declared.operator.Operator.{Operator as Code}
use Rattle.ca_match.specs.declared.operator.Operator.TheVariants as code
use Rattle.ca_match.specs.Operators.{Operator, operator_in, One, Two, Short, is_atom, is_integer, is_tuple, is_list, is_binary, test, negation, connective, exclusive, comparison, on_integer, on_integers, on_quotient, element, head_of, tail_of, list_length, tuple_size, byte_size, either_size, counted}

-- the meaning of each operator, as the table gives it to the operator's name
abbrev pub meaning_of : Code → Operator
meaning_of code.IsAtom = One (test is_atom)
meaning_of code.IsInteger = One (test is_integer)
meaning_of code.IsNumber = One (test is_integer)
meaning_of code.IsTuple = One (test is_tuple)
meaning_of code.IsList = One (test is_list)
meaning_of code.IsBinary = One (test is_binary)
meaning_of code.Not = One negation
meaning_of code.And = Two (connective ◌&&◌)
meaning_of code.Or = Two (connective ◌||◌)
meaning_of code.Xor = Two (connective exclusive)
meaning_of code.AndAlso = Short false
meaning_of code.OrElse = Short true
meaning_of code.Greater = Two (comparison is_gt)
meaning_of code.GreaterOrEqual = Two (comparison is_ge)
meaning_of code.Less = Two (comparison is_lt)
meaning_of code.LessOrEqual = Two (comparison is_le)
meaning_of code.Equal = Two (comparison is_eq)
meaning_of code.ExactlyEqual = Two (comparison is_eq)
meaning_of code.Unequal = Two (comparison is_ne)
meaning_of code.ExactlyUnequal = Two (comparison is_ne)
meaning_of code.Plus = Two (on_integers ◌+ℤ◌)
meaning_of code.Minus = Two (on_integers ◌-ℤ◌)
meaning_of code.Times = Two (on_integers ◌*ℤ◌)
meaning_of code.Div = Two (on_quotient int_div)
meaning_of code.Rem = Two (on_quotient int_rem)
meaning_of code.Abs = One (on_integer (λ n. pos (unsigned_abs n)))
meaning_of code.Band = Two (on_integers (int_bit_and w64))
meaning_of code.Bor = Two (on_integers (int_bit_or w64))
meaning_of code.Bxor = Two (on_integers (int_bit_xor w64))
meaning_of code.Bnot = One (on_integer (λ n. neg_ℤ n -ℤ pos 1))
meaning_of code.Element = Two element
meaning_of code.Hd = One head_of
meaning_of code.Tl = One tail_of
meaning_of code.Length = One (counted list_length)
meaning_of code.Size = One (counted either_size)
meaning_of code.TupleSize = One (counted tuple_size)
meaning_of code.ByteSize = One (counted byte_size)

-- how each operator is spelled
abbrev pub name_of : Code → List ℕ
name_of code.IsAtom = codes "is_atom"
name_of code.IsInteger = codes "is_integer"
name_of code.IsNumber = codes "is_number"
name_of code.IsTuple = codes "is_tuple"
name_of code.IsList = codes "is_list"
name_of code.IsBinary = codes "is_binary"
name_of code.Not = codes "not"
name_of code.And = codes "and"
name_of code.Or = codes "or"
name_of code.Xor = codes "xor"
name_of code.AndAlso = codes "andalso"
name_of code.OrElse = codes "orelse"
name_of code.Greater = codes ">"
name_of code.GreaterOrEqual = codes ">="
name_of code.Less = codes "<"
name_of code.LessOrEqual = codes "=<"
name_of code.Equal = codes "=="
name_of code.ExactlyEqual = codes "=:="
name_of code.Unequal = codes "/="
name_of code.ExactlyUnequal = codes "=/="
name_of code.Plus = codes "+"
name_of code.Minus = codes "-"
name_of code.Times = codes "*"
name_of code.Div = codes "div"
name_of code.Rem = codes "rem"
name_of code.Abs = codes "abs"
name_of code.Band = codes "band"
name_of code.Bor = codes "bor"
name_of code.Bxor = codes "bxor"
name_of code.Bnot = codes "bnot"
name_of code.Element = codes "element"
name_of code.Hd = codes "hd"
name_of code.Tl = codes "tl"
name_of code.Length = codes "length"
name_of code.Size = codes "size"
name_of code.TupleSize = codes "tuple_size"
name_of code.ByteSize = codes "byte_size"

-- the meaning of the first one of these with a name
abbrev pub named_in : List Code → List ℕ → Option Operator
named_in operators name = operator_in (map (λ c. (name_of c, meaning_of c)) operators) name

-- the truth value of the first argument at which the second one isn't evaluated
abbrev pub stop_of : Operator → Option Bool
stop_of (One f) = None
stop_of (Two f) = None
stop_of (Short stop) = Some stop
