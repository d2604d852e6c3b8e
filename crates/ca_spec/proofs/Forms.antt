-- Parts of heads, and expressions, by what their compiled forms are no forms of.
use Rattle.std.proofs.Common.{◌≡◌, ℕ, ◌<◌, Bool, true, false, List, [], ◌∷◌, length, Option, Some, None, refl, ap, sym, ◌∙◌, arith, Vec, Box, Global}
use Rattle.std.specs.Prelude.{codes, is_none, not, ◌&&◌, ◌||◌}
use Rattle.ca_term.specs.Object.{fits}
use Rattle.ca_term.specs.Tree.{Tree, Integer, Atom, Tuple, Nil, Cons, Binary, Ends, More, list_of}
use Rattle.ca_match.specs.declared.operator.Operator.{Operator}
use Rattle.ca_match.specs.Operators.{is_tuple}
use Rattle.ca_match.specs.Variable.{is_all_bound, is_whole, is_wildcard, variable_of}
use Rattle.ca_spec.specs.ByCode.{is_constant, variable_in}
use Rattle.ca_spec.specs.ExpressionView.{IsForm, is_itself, tree_of_form}
use Rattle.ca_spec.specs.PatternView.{IsShape, fits_equal, tree_of_shape}
use Rattle.ca_spec.specs.SieveView.{compared}
use Rattle.ca_spec.specs.declared.expression.Expression.{Expression}
use Rattle.ca_spec.specs.declared.expression.Form.{Form}
use Rattle.ca_spec.specs.declared.expression.Form.TheVariants as form
use Rattle.ca_spec.specs.declared.pattern.Pattern.{Pattern}
use Rattle.ca_spec.specs.declared.pattern.Shape.{Shape}
use Rattle.ca_spec.specs.declared.pattern.Shape.TheVariants as shape
use Rattle.ca_spec.proofs.Named.{not_const}
use Rattle.ca_spec.proofs.Names.{not_all_bound, not_whole, number_of_name}

-- ---- what is no variable

no_name : (b : Bool) (v : Option ℕ) → (b && is_none v) ≡ true → v ≡ None
no_name true None e = refl
no_name true (Some n) e = cc
no_name false v e = cc

cells_no_variable : (heads : List Tree) (tail : Tree) → 0 < length heads → variable_in (list_of heads tail) ≡ None
cells_no_variable [] tail h = absurd (omega arith)
cells_no_variable (t ∷ ts) tail h = refl

equal_no_variable : (t : Tree) → fits_equal t ≡ true → variable_in t ≡ None
equal_no_variable (Integer n) e = refl
equal_no_variable (Atom text) e = no_name (not (is_wildcard text)) (variable_of text) e
equal_no_variable (Tuple row) e = refl
equal_no_variable Nil e = refl
equal_no_variable (Cons head tail) e = refl
equal_no_variable (Binary bytes) e = refl

-- A part of a head that is no variable by its form is none by its name.
pub shape_no_variable : (s : Shape) → IsShape s → ((n : ℕ) → s ≡ shape.Variable n → ⊥) → variable_in (tree_of_shape s) ≡ None
shape_no_variable shape.Anything k h = refl
shape_no_variable (shape.Variable n) k h = absurd (h n refl)
shape_no_variable (shape.Equal t) k h = equal_no_variable t k
shape_no_variable (shape.Tuple parts) k h = refl
shape_no_variable (shape.List heads tail) k h = cells_no_variable heads.items tail.value k

itself_no_variable : (t : Tree) → is_itself t ≡ true → variable_in t ≡ None
itself_no_variable (Integer n) e = refl
itself_no_variable (Atom text) e = no_name (not (is_whole text || is_all_bound text)) (variable_of text) e
itself_no_variable (Tuple row) e = refl
itself_no_variable Nil e = refl
itself_no_variable (Cons head tail) e = refl
itself_no_variable (Binary bytes) e = refl

-- So it is of an expression.
pub form_no_variable : (f : Form) → IsForm f → ((n : ℕ) → f ≡ form.Variable n → ⊥) → variable_in (tree_of_form f) ≡ None
form_no_variable (form.Variable n) k h = absurd (h n refl)
form_no_variable form.Whole k h = refl
form_no_variable form.AllBound k h = refl
form_no_variable (form.Literal t) k h = itself_no_variable t k
form_no_variable (form.Constant t) k h = refl
form_no_variable (form.Tuple parts) k h = refl
form_no_variable (form.List heads tail) k h = cells_no_variable heads.items tail.value k
form_no_variable (form.One operator a) k h = refl
form_no_variable (form.Two operator a b) k h = refl

-- ---- what is no tuple

cells_no_tuple : (heads : List Tree) (tail : Tree) → 0 < length heads → is_tuple (list_of heads tail) ≡ false
cells_no_tuple [] tail h = absurd (omega arith)
cells_no_tuple (t ∷ ts) tail h = refl

equal_no_tuple : (t : Tree) → fits_equal t ≡ true → is_tuple t ≡ false
equal_no_tuple (Integer n) e = refl
equal_no_tuple (Atom text) e = refl
equal_no_tuple (Tuple row) e = cc
equal_no_tuple Nil e = refl
equal_no_tuple (Cons head tail) e = refl
equal_no_tuple (Binary bytes) e = refl

-- A head that is no tuple by its form is none.
pub shape_no_tuple : (s : Shape) → IsShape s → ((parts : Vec Pattern Global) → s ≡ shape.Tuple parts → ⊥) → is_tuple (tree_of_shape s) ≡ false
shape_no_tuple shape.Anything k h = refl
shape_no_tuple (shape.Variable n) k h = refl
shape_no_tuple (shape.Equal t) k h = equal_no_tuple t k
shape_no_tuple (shape.Tuple parts) k h = absurd (h parts refl)
shape_no_tuple (shape.List heads tail) k h = cells_no_tuple heads.items tail.value k

-- ---- constants

itself_constant : (t : Tree) → is_itself t ≡ true → is_constant t ≡ fits t
itself_constant (Integer n) e = refl
itself_constant (Atom text) e = ap (λ (x : Bool). x && fits (Atom text)) e
itself_constant (Tuple row) e = cc
itself_constant Nil e = refl
itself_constant (Cons head tail) e = cc
itself_constant (Binary bytes) e = refl

-- A constant of an expression has its code where it is told so.
pub literal_coded : (e t : Tree) (b : Bool) → b ≡ fits t → is_itself t ≡ true → t ≡ e → b ≡ is_constant e
literal_coded e t b c i f = c ∙ sym (itself_constant t i) ∙ ap is_constant f

pub constant_coded : (e t : Tree) (b : Bool) → b ≡ fits t → Tuple (More (Atom (codes "const")) (More t Ends)) ≡ e → b ≡ is_constant e
constant_coded e t b c f = c ∙ ap is_constant f

cells_no_constant : (heads : List Tree) (tail : Tree) → 0 < length heads → is_constant (list_of heads tail) ≡ false
cells_no_constant [] tail h = absurd (omega arith)
cells_no_constant (t ∷ ts) tail h = refl

-- An expression that is no constant by its form is none.
pub form_no_constant : (f : Form) → IsForm f → ((t : Tree) → f ≡ form.Literal t → ⊥) → ((t : Tree) → f ≡ form.Constant t → ⊥)
    → is_constant (tree_of_form f) ≡ false
form_no_constant (form.Variable n) k h g = rw (number_of_name n k, not_whole n, not_all_bound n) refl
form_no_constant form.Whole k h g = refl
form_no_constant form.AllBound k h g = refl
form_no_constant (form.Literal t) k h g = absurd (h t refl)
form_no_constant (form.Constant t) k h g = absurd (g t refl)
form_no_constant (form.Tuple parts) k h g = refl
form_no_constant (form.List heads tail) k h g = cells_no_constant heads.items tail.value k
form_no_constant (form.One operator a) k h g = ap (λ (x : Bool). x && fits a.value) (not_const operator)
form_no_constant (form.Two operator a b) k h g = refl

-- ---- comparisons

itself_not_compared : (t : Tree) → is_itself t ≡ true → compared t ≡ None
itself_not_compared (Integer n) e = refl
itself_not_compared (Atom text) e = refl
itself_not_compared (Tuple row) e = cc
itself_not_compared Nil e = refl
itself_not_compared (Cons head tail) e = refl
itself_not_compared (Binary bytes) e = refl

cells_not_compared : (heads : List Tree) (tail : Tree) → 0 < length heads → compared (list_of heads tail) ≡ None
cells_not_compared [] tail h = absurd (omega arith)
cells_not_compared (t ∷ ts) tail h = refl

-- An expression with no operator of two arguments is no comparison.
pub form_not_compared : (f : Form) → IsForm f
    → ((o : Operator) (a b : Box Expression Global) → f ≡ form.Two o a b → ⊥) → compared (tree_of_form f) ≡ None
form_not_compared (form.Variable n) k h = refl
form_not_compared form.Whole k h = refl
form_not_compared form.AllBound k h = refl
form_not_compared (form.Literal t) k h = itself_not_compared t k
form_not_compared (form.Constant t) k h = refl
form_not_compared (form.Tuple parts) k h = refl
form_not_compared (form.List heads tail) k h = cells_not_compared heads.items tail.value k
form_not_compared (form.One operator a) k h = refl
form_not_compared (form.Two operator a b) k h = absurd (h operator a b refl)
