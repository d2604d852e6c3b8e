-- The expression that a compiled one was made from.
use Rattle.std.specs.Prelude.{◌≡◌, ◌<◌, Bool, true, false, not, ◌&&◌, ◌||◌, length, codes, is_none}
use Rattle.ca_term.specs.Tree.{Tree, Integer, Atom, Tuple, Nil, Cons, Binary, Ends, More, row_of, list_of}
use Rattle.ca_match.specs.OperatorView.{meaning_of, name_of}
use Rattle.ca_match.specs.Operators.{count_of}
use Rattle.ca_match.specs.Spelling.{variable_name}
use Rattle.ca_match.specs.Variable.{is_all_bound, is_whole, variable_of}
use Rattle.ca_spec.specs.declared.expression.Form.{Form}
use Rattle.ca_spec.specs.declared.expression.Form.TheVariants as form
use Rattle.ca_spec.specs.declared.expression.Expression.TheInside.{Inside}

abbrev pub tree_of_form : Form → Tree
tree_of_form (form.Variable number) = Atom (variable_name number)
tree_of_form form.Whole = Atom (codes "$_")
tree_of_form form.AllBound = Atom (codes "$$")
tree_of_form (form.Literal term) = term
tree_of_form (form.Constant term) = Tuple (More (Atom (codes "const")) (More term Ends))
tree_of_form (form.Tuple parts) = Tuple (More (Tuple (row_of parts.items)) Ends)
tree_of_form (form.List heads tail) = list_of heads.items tail.value
tree_of_form (form.One operator argument) = Tuple (More (Atom (name_of operator)) (More argument.value Ends))
tree_of_form (form.Two operator first second) = Tuple (More (Atom (name_of operator)) (More first.value (More second.value Ends)))

-- whether an expression without parts is its own value
abbrev pub is_itself : Tree → Bool
is_itself (Integer n) = true
is_itself (Atom text) = not (is_whole text || is_all_bound text) && is_none (variable_of text)
is_itself (Tuple row) = false
is_itself Nil = true
is_itself (Cons head tail) = false
is_itself (Binary bytes) = true

abbrev pub IsForm : Form → Type 0
IsForm (form.Variable number) = number < 100
IsForm form.Whole = Unit {0}
IsForm form.AllBound = Unit {0}
IsForm (form.Literal term) = is_itself term ≡ true
IsForm (form.Constant term) = Unit {0}
IsForm (form.Tuple parts) = Unit {0}
IsForm (form.List heads tail) = 0 < length heads.items
IsForm (form.One operator argument) = count_of (meaning_of operator) ≡ 1
IsForm (form.Two operator first second) = count_of (meaning_of operator) ≡ 2

abbrev pub IsKept : Inside → Type 0
IsKept expression = IsForm expression.form
