-- Matching: which objects a match specification chooses, and what it makes of each.
-- Source: the ERTS user's guide, "Match Specifications in Erlang"; the bound on the depth of values is this project's own.
use Rattle.std.specs.Prelude.{ℕ, Bool, true, false, ◌&&◌, nat_le, List, [], ◌∷◌, replicate, slice_index_or, slice_set, filter_map, codes, bytes_eq, Option, Some, None, option_map, option_and_then, unwrap_or, if◌then◌else◌}
use Rattle.std.specs.Option.{option_or}
use Rattle.std.specs.Ordering.{is_eq}
use Rattle.ca_term.specs.declared.bounds.TheConstants.{MOST_DEPTH}
use Rattle.ca_term.specs.Tree.{Tree, Row, Integer, Atom, Tuple, Nil, Cons, Binary, Ends, More, depth, row_of, list_of}
use Rattle.ca_term.specs.Order.{term_cmp}
use Rattle.ca_match.specs.Variable.{is_all_bound, is_whole, is_wildcard, variable_of}
use Rattle.ca_match.specs.Operators.{applied, operator_of, truth_of}

-- ---- heads

-- what is bound to each of the variables '$0' to '$99', by their numbers
abbrev pub Bindings : Type 0
Bindings = List (Option Tree)

abbrev pub no_bindings : Bindings
no_bindings = replicate 100 None

-- what is bound to a variable
abbrev pub bound : Bindings → ℕ → Option Tree
bound bindings number = slice_index_or bindings number None

-- the bindings where two terms are equal
abbrev pub where_equal : Bindings → Tree → Tree → Option Bindings
where_equal bindings t u = if is_eq (term_cmp t u) then Some bindings else None

-- a variable is bound at its first place, and meets an equal term at a later one
abbrev pub bind_variable : Bindings → ℕ → Option Tree → Tree → Option Bindings
bind_variable bindings number None t = Some (slice_set bindings number (Some t))
bind_variable bindings number (Some u) t = where_equal bindings u t

-- an atom of a head: a variable, or itself
abbrev pub bind_name : Bindings → List ℕ → Option ℕ → Tree → Option Bindings
bind_name bindings text (Some number) t = bind_variable bindings number (bound bindings number) t
bind_name bindings text None t = where_equal bindings (Atom text) t

abbrev pub bind_atom : Bindings → List ℕ → Tree → Option Bindings
bind_atom bindings text t = if is_wildcard text then Some bindings else bind_name bindings text (variable_of text) t

unfoldable mutual
  -- The bindings with those of a part of the head that stands against a term, if it fits: from the left, tuples of one size element by
  -- element, list cells by head and tail, and all else an equal term.
  pub bind : Tree → Tree → Bindings → Option Bindings
  bind (Integer n) t bindings = where_equal bindings (Integer n) t
  bind (Atom text) t bindings = bind_atom bindings text t
  bind (Tuple row) (Tuple elements) bindings = bind_row row elements bindings
  bind (Tuple row) t bindings = None
  bind Nil t bindings = where_equal bindings Nil t
  bind (Cons head tail) (Cons first rest) bindings = option_and_then (bind tail rest) (bind head first bindings)
  bind (Cons head tail) t bindings = None
  bind (Binary bytes) t bindings = where_equal bindings (Binary bytes) t

  pub bind_row : Row → Row → Bindings → Option Bindings
  bind_row Ends Ends bindings = Some bindings
  bind_row Ends (More u elements) bindings = None
  bind_row (More t row) Ends bindings = None
  bind_row (More t row) (More u elements) bindings = option_and_then (bind_row row elements) (bind t u bindings)

-- The bindings of a head that fits an object.
abbrev pub fitted : Tree → Tree → Option Bindings
fitted head object = bind head object no_bindings

-- ---- expressions of guards and bodies

-- what an expression may speak of
pub record Scene : Type 0 where
  pub object : Tree
  pub bindings : Bindings

-- a term that isn't too deep
abbrev pub within : Tree → Option Tree
within t = if nat_le (depth t) MOST_DEPTH then Some t else None

-- '$$': what is bound, in the order of the variables' numbers
abbrev pub all_bound : Bindings → Tree
all_bound bindings = list_of (filter_map (λ b. b) bindings) Nil

-- any other atom: the variable's binding, or itself
abbrev pub name_value : Scene → List ℕ → Option ℕ → Option Tree
name_value scene text (Some number) = bound scene.bindings number
name_value scene text None = Some (Atom text)

abbrev pub atom_value : Scene → List ℕ → Option Tree
atom_value scene text =
    if is_whole text then Some scene.object
    else (if is_all_bound text then within (all_bound scene.bindings)
    else name_value scene text (variable_of text))

-- the list of values, if none failed
abbrev pub all_values : List (Option Tree) → Option (List Tree)
all_values [] = Some []
all_values (a ∷ more) = option_and_then (λ t. option_map (λ ts. t ∷ ts) (all_values more)) a

-- the tuple of values, and the list cell of two
abbrev pub tuple_of : List (Option Tree) → Option Tree
tuple_of values = option_and_then (λ ts. within (Tuple (row_of ts))) (all_values values)

abbrev pub cell_of : Option Tree → Option Tree → Option Tree
cell_of head tail = option_and_then (λ t. option_and_then (λ u. within (Cons t u)) tail) head

-- {const,T}: T as it stands
abbrev pub constant : Row → Option Tree
constant Ends = None
constant (More t Ends) = Some t
constant (More t (More u row)) = None

-- {Op,E1,..,En} with the values of its arguments
abbrev pub call_value : Tree → Row → List (Option Tree) → Option Tree
call_value (Atom name) arguments values =
    if bytes_eq name (codes "const") then constant arguments else option_and_then (λ operator. applied operator values) (operator_of name)
call_value t arguments values = None

unfoldable mutual
  -- The value of an expression, or none where it fails.
  pub value : Scene → Tree → Option Tree
  value scene (Integer n) = Some (Integer n)
  value scene (Atom text) = atom_value scene text
  value scene (Tuple row) = form_value scene row
  value scene Nil = Some Nil
  value scene (Cons head tail) = cell_of (value scene head) (value scene tail)
  value scene (Binary bytes) = Some (Binary bytes)

  -- a tuple of one element that is a tuple, {const,T}, or an operator with its arguments
  pub form_value : Scene → Row → Option Tree
  form_value scene Ends = None
  form_value scene (More t Ends) = tuple_value scene t
  form_value scene (More t (More u row)) = call_value t (More u row) (value scene u ∷ values scene row)

  -- {{E1,..,En}}: the tuple of the values
  pub tuple_value : Scene → Tree → Option Tree
  tuple_value scene (Integer n) = None
  tuple_value scene (Atom text) = None
  tuple_value scene (Tuple row) = tuple_of (values scene row)
  tuple_value scene Nil = None
  tuple_value scene (Cons head tail) = None
  tuple_value scene (Binary bytes) = None

  pub values : Scene → Row → List (Option Tree)
  values scene Ends = []
  values scene (More t row) = value scene t ∷ values scene row

-- ---- clauses and specifications

-- whether a value is true
abbrev pub is_truth : Option Tree → Bool
is_truth a = unwrap_or (option_and_then truth_of a) false

-- whether all guards of a list have the value true
unfoldable pub pass : Scene → Tree → Bool
pass scene (Integer n) = false
pass scene (Atom text) = false
pass scene (Tuple row) = false
pass scene Nil = true
pass scene (Cons guard guards) = is_truth (value scene guard) && pass scene guards
pass scene (Binary bytes) = false

-- the value of a body, a list of one expression; its forms are those of guards without operators
abbrev pub body_value : Scene → Tree → Option Tree
body_value scene (Cons expression Nil) = value scene expression
body_value scene t = None

-- the body's value where the guards pass
abbrev pub guarded : Scene → Tree → Tree → Option Tree
guarded scene guards body = if pass scene guards then body_value scene body else None

-- the result of one clause {Head,Guards,Body} where it holds: its head fits, its guards all have the value true and its body doesn't fail
abbrev pub clause_result : Tree → Tree → Option Tree
clause_result (Tuple (More head (More guards (More body Ends)))) object =
    option_and_then (λ bindings. guarded (record { object = object; bindings = bindings }) guards body) (fitted head object)
clause_result t object = None

-- The result that a specification gives an object: that of the first clause that holds.
unfoldable pub result_of : Tree → Tree → Option Tree
result_of (Integer n) object = None
result_of (Atom text) object = None
result_of (Tuple row) object = None
result_of Nil object = None
result_of (Cons clause clauses) object = option_or (clause_result clause object) (result_of clauses object)
result_of (Binary bytes) object = None

-- The results of all objects that a specification chooses, in order.
abbrev pub chosen : Tree → List Tree → List Tree
chosen specification objects = filter_map (result_of specification) objects
