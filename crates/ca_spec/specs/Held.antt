-- The variables of a head, collected from the left.
use Rattle.std.specs.Prelude.{◌≡◌, ℕ, ◌+◌, ◌<◌, max, Bool, true, false, List, replicate, slice_index_or, slice_set, Option, Some, None}
use Rattle.ca_term.specs.Tree.{Tree, Row, Integer, Atom, Tuple, Nil, Cons, Binary, Ends, More}
use Rattle.ca_match.specs.Variable.{variable_of}
use Rattle.ca_match.specs.Specification.{holds}
use Rattle.ca_spec.specs.Places.{places}

-- the variables by their numbers, and how many places a table needs that has them all
pub record Held : Type 0 where
  pub table : List Bool
  pub places : ℕ

abbrev pub none_met : Held
none_met = record { table = replicate 100 false; places = 0 }

abbrev pub with_variable : Option ℕ → Held → Held
with_variable None held = held
with_variable (Some number) held = record { table = slice_set held.table number true; places = max held.places (number + 1) }

abbrev mutual
  -- with the variables of a part of the head
  pub with_variables : Tree → Held → Held
  with_variables (Integer n) held = held
  with_variables (Atom text) held = with_variable (variable_of text) held
  with_variables (Tuple row) held = with_row row held
  with_variables Nil held = held
  with_variables (Cons head tail) held = with_variables tail (with_variables head held)
  with_variables (Binary bytes) held = held

  pub with_row : Row → Held → Held
  with_row Ends held = held
  with_row (More t row) held = with_row row (with_variables t held)

-- The variables are those of this head.
pub record AreOf (head : Tree) (held : Held) : Type 0 where
  pub table_is : (number : ℕ) → number < 100 → slice_index_or held.table number false ≡ holds number head
  pub places_are : held.places ≡ places head
