-- The part of a head that a pattern was compiled from.
use Rattle.std.specs.Prelude.{◌≡◌, ◌<◌, Bool, true, false, not, ◌&&◌, length, codes, is_none}
use Rattle.ca_term.specs.Tree.{Tree, Integer, Atom, Tuple, Nil, Cons, Binary, row_of, list_of}
use Rattle.ca_match.specs.Spelling.{variable_name}
use Rattle.ca_match.specs.Variable.{is_wildcard, variable_of}
use Rattle.ca_spec.specs.declared.pattern.Shape.{Shape}
use Rattle.ca_spec.specs.declared.pattern.Shape.TheVariants as shape
use Rattle.ca_spec.specs.declared.pattern.Pattern.TheInside.{Inside}

abbrev pub tree_of_shape : Shape → Tree
tree_of_shape shape.Anything = Atom (codes "_")
tree_of_shape (shape.Variable number) = Atom (variable_name number)
tree_of_shape (shape.Equal term) = term
tree_of_shape (shape.Tuple parts) = Tuple (row_of parts.items)
tree_of_shape (shape.List heads tail) = list_of heads.items tail.value

-- whether a part of a head without parts fits an equal term alone
abbrev pub fits_equal : Tree → Bool
fits_equal (Integer n) = true
fits_equal (Atom text) = not (is_wildcard text) && is_none (variable_of text)
fits_equal (Tuple row) = false
fits_equal Nil = true
fits_equal (Cons head tail) = false
fits_equal (Binary bytes) = true

abbrev pub IsShape : Shape → Type 0
IsShape shape.Anything = Unit {0}
IsShape (shape.Variable number) = number < 100
IsShape (shape.Equal term) = fits_equal term ≡ true
IsShape (shape.Tuple parts) = Unit {0}
IsShape (shape.List heads tail) = 0 < length heads.items

abbrev pub IsKept : Inside → Type 0
IsKept pattern = IsShape pattern.shape
