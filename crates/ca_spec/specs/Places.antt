-- How many places a table needs that has all variables of a part of a head at the places of their numbers.
use Rattle.std.specs.Prelude.{ℕ, ◌+◌, max, Option, Some, None}
use Rattle.ca_term.specs.Tree.{Tree, Row, Integer, Atom, Tuple, Nil, Cons, Binary, Ends, More}
use Rattle.ca_match.specs.Variable.{variable_of}

abbrev pub places_of_variable : Option ℕ → ℕ
places_of_variable None = 0
places_of_variable (Some number) = number + 1

abbrev mutual
  pub places : Tree → ℕ
  places (Integer n) = 0
  places (Atom text) = places_of_variable (variable_of text)
  places (Tuple row) = row_places row
  places Nil = 0
  places (Cons head tail) = max (places head) (places tail)
  places (Binary bytes) = 0

  pub row_places : Row → ℕ
  row_places Ends = 0
  row_places (More t row) = max (places t) (row_places row)
