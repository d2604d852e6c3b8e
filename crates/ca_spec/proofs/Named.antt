-- Operators by their names.
use Rattle.std.proofs.Common.{◌≡◌, false, Some, refl}
use Rattle.std.specs.Prelude.{is_some}
use Rattle.std.specs.Prelude.{bytes_eq, codes}
use Rattle.ca_match.specs.declared.operator.Operator.{Operator}
use Rattle.ca_match.specs.declared.operator.Operator.TheVariants as code
use Rattle.ca_match.specs.OperatorView.{meaning_of, name_of, stop_of}
use Rattle.ca_match.specs.Operators.{operator_of}
use Rattle.ca_spec.specs.ByCode.{is_connective}

-- No operator is called const.
pub not_const : (operator : Operator) → bytes_eq (name_of operator) (codes "const") ≡ false
not_const code.IsAtom = refl
not_const code.IsInteger = refl
not_const code.IsNumber = refl
not_const code.IsTuple = refl
not_const code.IsList = refl
not_const code.IsBinary = refl
not_const code.Not = refl
not_const code.And = refl
not_const code.Or = refl
not_const code.Xor = refl
not_const code.AndAlso = refl
not_const code.OrElse = refl
not_const code.Greater = refl
not_const code.GreaterOrEqual = refl
not_const code.Less = refl
not_const code.LessOrEqual = refl
not_const code.Equal = refl
not_const code.ExactlyEqual = refl
not_const code.Unequal = refl
not_const code.ExactlyUnequal = refl
not_const code.Plus = refl
not_const code.Minus = refl
not_const code.Times = refl
not_const code.Div = refl
not_const code.Rem = refl
not_const code.Abs = refl
not_const code.Band = refl
not_const code.Bor = refl
not_const code.Bxor = refl
not_const code.Bnot = refl
not_const code.Element = refl
not_const code.Hd = refl
not_const code.Tl = refl
not_const code.Length = refl
not_const code.Size = refl
not_const code.TupleSize = refl
not_const code.ByteSize = refl

-- Each operator is the one of its name.
pub named : (operator : Operator) → operator_of (name_of operator) ≡ Some (meaning_of operator)
unfolding operator_of
named code.IsAtom = refl
named code.IsInteger = refl
named code.IsNumber = refl
named code.IsTuple = refl
named code.IsList = refl
named code.IsBinary = refl
named code.Not = refl
named code.And = refl
named code.Or = refl
named code.Xor = refl
named code.AndAlso = refl
named code.OrElse = refl
named code.Greater = refl
named code.GreaterOrEqual = refl
named code.Less = refl
named code.LessOrEqual = refl
named code.Equal = refl
named code.ExactlyEqual = refl
named code.Unequal = refl
named code.ExactlyUnequal = refl
named code.Plus = refl
named code.Minus = refl
named code.Times = refl
named code.Div = refl
named code.Rem = refl
named code.Abs = refl
named code.Band = refl
named code.Bor = refl
named code.Bxor = refl
named code.Bnot = refl
named code.Element = refl
named code.Hd = refl
named code.Tl = refl
named code.Length = refl
named code.Size = refl
named code.TupleSize = refl
named code.ByteSize = refl

-- `andalso` and `orelse` are those that may stop.
pub connective : (operator : Operator) → is_connective (name_of operator) ≡ is_some (stop_of (meaning_of operator))
connective code.IsAtom = refl
connective code.IsInteger = refl
connective code.IsNumber = refl
connective code.IsTuple = refl
connective code.IsList = refl
connective code.IsBinary = refl
connective code.Not = refl
connective code.And = refl
connective code.Or = refl
connective code.Xor = refl
connective code.AndAlso = refl
connective code.OrElse = refl
connective code.Greater = refl
connective code.GreaterOrEqual = refl
connective code.Less = refl
connective code.LessOrEqual = refl
connective code.Equal = refl
connective code.ExactlyEqual = refl
connective code.Unequal = refl
connective code.ExactlyUnequal = refl
connective code.Plus = refl
connective code.Minus = refl
connective code.Times = refl
connective code.Div = refl
connective code.Rem = refl
connective code.Abs = refl
connective code.Band = refl
connective code.Bor = refl
connective code.Bxor = refl
connective code.Bnot = refl
connective code.Element = refl
connective code.Hd = refl
connective code.Tl = refl
connective code.Length = refl
connective code.Size = refl
connective code.TupleSize = refl
connective code.ByteSize = refl
