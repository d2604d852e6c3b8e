-- The specifications of which an object's code tells the result, with no value made.
use Rattle.std.specs.Prelude.{◌≡◌, ℕ, ◌≤◌, ◌<◌, Bool, true, false, ◌&&◌, ◌||◌, bytes_eq, codes, List, Option, Some, None, IsSome, if◌then◌else◌}
use Rattle.ca_term.specs.Object.{fits}
use Rattle.ca_term.specs.Tree.{Tree, Atom, Tuple, Nil, Cons, Ends, More}
use Rattle.ca_match.specs.declared.operator.Operator.{Operator}
use Rattle.ca_match.specs.Match.{Bindings, bound}
use Rattle.ca_match.specs.OperatorView.{name_of}
use Rattle.ca_match.specs.Specification.{holds}
use Rattle.ca_match.specs.Variable.{is_whole, variable_of}
use Rattle.ca_spec.specs.ExpressionView.{is_itself}
use Rattle.ca_spec.specs.Places.{places}
use Rattle.ca_spec.specs.Reached.{AreShort}

-- the variable that an expression is
abbrev pub variable_in : Tree → Option ℕ
variable_in (Atom text) = variable_of text
variable_in t = None

-- whether an expression is '$_'
abbrev pub is_object : Tree → Bool
is_object (Atom text) = is_whole text
is_object t = false

-- whether an expression is a constant, {const,T} or a term that is its own value, whose code isn't longer than codes may be
abbrev pub is_constant : Tree → Bool
is_constant (Tuple (More (Atom name) (More t Ends))) = bytes_eq name (codes "const") && fits t
is_constant t = is_itself t && fits t

abbrev pub has_variable : Tree → Option ℕ → Bool
has_variable head None = false
has_variable head (Some number) = holds number head

-- whether an expression's value has its code by itself: a variable of the head, '$_' or a constant
abbrev pub is_operand : Tree → Tree → Bool
is_operand head e = is_object e || is_constant e || has_variable head (variable_in e)

abbrev pub is_comparison : List ℕ → Bool
is_comparison name =
    bytes_eq name (codes ">") || bytes_eq name (codes ">=") || bytes_eq name (codes "<") || bytes_eq name (codes "=<")
    || bytes_eq name (codes "==") || bytes_eq name (codes "=:=") || bytes_eq name (codes "/=") || bytes_eq name (codes "=/=")

abbrev pub is_test : List ℕ → Bool
is_test name =
    bytes_eq name (codes "is_integer") || bytes_eq name (codes "is_number") || bytes_eq name (codes "is_atom")
    || bytes_eq name (codes "is_tuple") || bytes_eq name (codes "is_list") || bytes_eq name (codes "is_binary")

abbrev pub is_connective : List ℕ → Bool
is_connective name = bytes_eq name (codes "andalso") || bytes_eq name (codes "orelse")

-- whether a guard compares operands or tests the kind of one, or is `andalso`, `orelse` or `not` of such guards
abbrev pub is_plain : Tree → Tree → Bool
is_plain head (Tuple (More (Atom name) (More a Ends))) =
    if bytes_eq name (codes "not") then is_plain head a else is_test name && is_operand head a
is_plain head (Tuple (More (Atom name) (More a (More b Ends)))) =
    if is_connective name then is_plain head a && is_plain head b else is_comparison name && is_operand head a && is_operand head b
is_plain head t = false

-- whether all guards of a list are such
abbrev pub are_plain : Tree → Tree → Bool
are_plain head (Cons guard guards) = is_plain head guard && are_plain head guards
are_plain head Nil = true
are_plain head t = false

-- A clause whose variables are of '$0' to '$3', whose head has no constant that is too long for a code, with such guards, and with an operand as its body.
pub record IsPlain (head guards body : Tree) : Type 0 where
  pub few : places head ≤ 4
  pub short : AreShort head
  pub guards_are : are_plain head guards ≡ true
  pub body_is : is_operand head body ≡ true

-- The specification is one such clause.
abbrev pub IsOnePlain : Tree → Type 0
IsOnePlain (Cons (Tuple (More head (More guards (More (Cons body Nil) Ends)))) Nil) = IsPlain head guards body
IsOnePlain t = ⊥

-- ---- how that is found

-- the guard {Op,E}
abbrev pub call_of_one : Operator → Tree → Tree
call_of_one operator a = Tuple (More (Atom (name_of operator)) (More a Ends))

-- Each variable of the head is bound.
abbrev pub AreBound : Tree → Bindings → Type 0
AreBound head bindings = (number : ℕ) → number < 100 → holds number head ≡ true → IsSome (bound bindings number)
