-- What is a match specification, and what isn't one: the first fault in reading order.
-- Source: the ERTS user's guide, "Match Specifications in Erlang", "Grammar"; which fault is named, and that a body is one expression without
-- operators, is this project's own.
use Rattle.std.specs.Prelude.{◌≡◌, ℕ, suc, ◌+◌, ◌==◌, Bool, true, false, ◌||◌, List, codes, bytes_eq, Option, Some, None, option_map, if◌then◌else◌}
use Rattle.std.specs.Option.{option_or}
use Rattle.ca_term.specs.Tree.{Tree, Row, Integer, Atom, Tuple, Nil, Cons, Binary, Ends, More, size}
use Rattle.ca_match.specs.Variable.{is_all_bound, is_whole, is_wildcard, variable_of}
use Rattle.ca_match.specs.Operators.{Operator, count_of, operator_of}

-- why a term is no specification
pub data Reason : Type 0 where
  -- it is no proper list
  NotAList : Reason
  -- a clause is no tuple of three elements, or its guards are no proper list
  NotAClause : Reason
  -- a head is no tuple, no variable and not '_'
  BadHead : Reason
  -- in a guard stands a tuple that is no expression
  BadGuard : Reason
  -- a body is no proper list of one expression, or in it stands a tuple that is no expression or an operator
  BadBody : Reason
  -- a guard or a body has a variable that its head doesn't hold
  Unbound : Reason

abbrev pub is_proper : Tree → Bool
is_proper (Integer n) = false
is_proper (Atom text) = false
is_proper (Tuple row) = false
is_proper Nil = true
is_proper (Cons head tail) = is_proper tail
is_proper (Binary bytes) = false

-- ---- heads

-- an atom that is this variable
abbrev pub is_variable : ℕ → Option ℕ → Bool
is_variable number None = false
is_variable number (Some n) = n == number

unfoldable mutual
  -- whether a head holds a variable
  pub holds : ℕ → Tree → Bool
  holds number (Integer n) = false
  holds number (Atom text) = is_variable number (variable_of text)
  holds number (Tuple row) = row_holds number row
  holds number Nil = false
  holds number (Cons head tail) = holds number head || holds number tail
  holds number (Binary bytes) = false

  pub row_holds : ℕ → Row → Bool
  row_holds number Ends = false
  row_holds number (More t row) = holds number t || row_holds number row

-- a head that is an atom
abbrev pub name_fault : Option ℕ → Option Reason
name_fault (Some number) = None
name_fault None = Some BadHead

abbrev pub head_fault : Tree → Option Reason
head_fault (Integer n) = Some BadHead
head_fault (Atom text) = if is_wildcard text then None else name_fault (variable_of text)
head_fault (Tuple row) = None
head_fault Nil = Some BadHead
head_fault (Cons head tail) = Some BadHead
head_fault (Binary bytes) = Some BadHead

-- ---- expressions of guards and bodies

-- where an expression stands
pub data Part : Type 0 where
  Guard : Part
  Body : Part

-- the fault of a tuple that is no expression there
abbrev pub bad : Part → Option Reason
bad Guard = Some BadGuard
bad Body = Some BadBody

-- an atom of an expression: a variable that the head holds, or itself
abbrev pub variable_fault : Tree → Option ℕ → Option Reason
variable_fault head None = None
variable_fault head (Some number) = if holds number head then None else Some Unbound

abbrev pub atom_fault : Tree → List ℕ → Option Reason
atom_fault head text = if is_whole text || is_all_bound text then None else variable_fault head (variable_of text)

-- an operator with so many arguments
abbrev pub has_count : Option Operator → ℕ → Bool
has_count None count = false
has_count (Some operator) count = count_of operator == count

-- operators stand in guards alone
abbrev pub is_call : Part → List ℕ → ℕ → Bool
is_call Guard name count = has_count (operator_of name) count
is_call Body name count = false

-- {const,T}, or an operator with so many arguments that have this first fault
abbrev pub call_fault : Part → Tree → ℕ → Option Reason → Option Reason
call_fault part (Atom name) count inside =
    if bytes_eq name (codes "const") then (if count == 1 then None else bad part)
    else (if is_call part name count then inside else bad part)
call_fault part t count inside = bad part

unfoldable mutual
  -- The first fault of an expression, with the head of its clause and the part where it stands.
  pub fault : Tree → Part → Tree → Option Reason
  fault head part (Integer n) = None
  fault head part (Atom text) = atom_fault head text
  fault head part (Tuple row) = form_fault head part row
  fault head part Nil = None
  fault head part (Cons first rest) = option_or (fault head part first) (fault head part rest)
  fault head part (Binary bytes) = None

  pub form_fault : Tree → Part → Row → Option Reason
  form_fault head part Ends = bad part
  form_fault head part (More t Ends) = tuple_fault head part t
  form_fault head part (More t (More u row)) = call_fault part t (suc (size row)) (option_or (fault head part u) (faults head part row))

  pub tuple_fault : Tree → Part → Tree → Option Reason
  tuple_fault head part (Integer n) = bad part
  tuple_fault head part (Atom text) = bad part
  tuple_fault head part (Tuple row) = faults head part row
  tuple_fault head part Nil = bad part
  tuple_fault head part (Cons first rest) = bad part
  tuple_fault head part (Binary bytes) = bad part

  -- the first fault of several expressions
  pub faults : Tree → Part → Row → Option Reason
  faults head part Ends = None
  faults head part (More t row) = option_or (fault head part t) (faults head part row)

-- ---- clauses and specifications

-- the first fault of the guards in a proper list
unfoldable pub each_fault : Tree → Tree → Option Reason
each_fault head (Integer n) = None
each_fault head (Atom text) = None
each_fault head (Tuple row) = None
each_fault head Nil = None
each_fault head (Cons guard guards) = option_or (fault head Guard guard) (each_fault head guards)
each_fault head (Binary bytes) = None

abbrev pub guards_fault : Tree → Tree → Option Reason
guards_fault head guards = if is_proper guards then each_fault head guards else Some NotAClause

abbrev pub body_fault : Tree → Tree → Option Reason
body_fault head (Cons expression Nil) = fault head Body expression
body_fault head t = Some BadBody

-- the first fault of a clause {Head,Guards,Body}
abbrev pub clause_fault : Tree → Option Reason
clause_fault (Tuple (More head (More guards (More body Ends)))) =
    option_or (head_fault head) (option_or (guards_fault head guards) (body_fault head body))
clause_fault t = Some NotAClause

-- the first fault of the clauses in a proper list, of which the first has this number
unfoldable pub clauses_fault : ℕ → Tree → Option (ℕ × Reason)
clauses_fault number (Integer n) = None
clauses_fault number (Atom text) = None
clauses_fault number (Tuple row) = None
clauses_fault number Nil = None
clauses_fault number (Cons clause clauses) =
    option_or (option_map (λ reason. (number, reason)) (clause_fault clause)) (clauses_fault (number + 1) clauses)
clauses_fault number (Binary bytes) = None

-- The first fault of a specification with the number of its clause: clauses count from 1, and 0 stands for the list.
abbrev pub first_fault : Tree → Option (ℕ × Reason)
first_fault specification = if is_proper specification then clauses_fault 1 specification else Some (0, NotAList)

abbrev pub IsSpecification : Tree → Type 0
IsSpecification specification = first_fault specification ≡ None
