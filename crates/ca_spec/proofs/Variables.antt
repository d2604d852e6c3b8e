-- The variables that were met are those of the head.
use Rattle.std.proofs.Common.{◌≡◌, ℕ, ◌<◌, max, Bool, true, false, List, length, set, get_or, Option, Some, None, refl, ap, ◌∙◌, arith}
use Rattle.std.proofs.lemmas.Bool.Decides.{nat_tests}
use Rattle.std.proofs.lemmas.List.{get_or-replicate, get_or-set_same, get_or-set_other, length-replicate, length-set}
use Rattle.std.proofs.Math.Bool.{or_assoc}
use Rattle.std.specs.Prelude.{◌||◌, ◌==◌}
use Rattle.ca_term.specs.Tree.{Tree, Row, Integer, Atom, Tuple, Nil, Cons, Binary, Ends, More}
use Rattle.ca_match.specs.Variable.{variable_of}
use Rattle.ca_match.specs.Specification.{holds, row_holds, is_variable}
use Rattle.ca_spec.specs.Held.{Held, AreOf, none_met, with_variable, with_variables, with_row}
use Rattle.ca_spec.specs.Places.{places, row_places, places_of_variable}

or_true : (b : Bool) → true ≡ (b || true)
or_true true = refl
or_true false = refl

or_false : (b : Bool) → b ≡ (b || false)
or_false true = refl
or_false false = refl

-- one more variable in the table
marked : (xs : List Bool) (m n : ℕ) (b : Bool) → b ≡ (m == n) → n < length xs → get_or (set xs m true) n false ≡ (get_or xs n false || b)
marked xs m n true e h =
    let same : m ≡ n = grind (arith, nat_tests) in
    rw same (get_or-set_same xs n true false h ∙ or_true (get_or xs n false))
marked xs m n false e h = get_or-set_other xs m n true false (grind (arith, nat_tests)) ∙ or_false (get_or xs n false)

marked_name : (held : Held) (v : Option ℕ) (n : ℕ) → n < length held.table
    → get_or (with_variable v held).table n false ≡ (get_or held.table n false || is_variable n v)
marked_name held None n h = or_false (get_or held.table n false)
marked_name held (Some m) n h = marked held.table m n (m == n) refl h

as_long_name : (v : Option ℕ) (held : Held) → length (with_variable v held).table ≡ length held.table
as_long_name None held = refl
as_long_name (Some m) held = length-set held.table m true

mutual
  as_long : (t : Tree) (held : Held) → length (with_variables t held).table ≡ length held.table
  as_long (Integer n) held = refl
  as_long (Atom text) held = as_long_name (variable_of text) held
  as_long (Tuple row) held = as_long_row row held
  as_long Nil held = refl
  as_long (Cons head tail) held = as_long tail (with_variables head held) ∙ as_long head held
  as_long (Binary bytes) held = refl

  as_long_row : (row : Row) (held : Held) → length (with_row row held).table ≡ length held.table
  as_long_row Ends held = refl
  as_long_row (More t row) held = as_long_row row (with_variables t held) ∙ as_long t held

-- the table behind two parts, one after the other
both : (a b c p q : Bool) → c ≡ (b || q) → b ≡ (a || p) → c ≡ (a || (p || q))
both a b c p q e f = e ∙ ap (λ (x : Bool). x || q) f ∙ or_assoc a p q

mutual
  unfolding holds row_holds

  held_table : (t : Tree) (held : Held) (n : ℕ) → n < length held.table
      → get_or (with_variables t held).table n false ≡ (get_or held.table n false || holds n t)
  held_table (Integer m) held n h = or_false (get_or held.table n false)
  held_table (Atom text) held n h = marked_name held (variable_of text) n h
  held_table (Tuple row) held n h = held_row row held n h
  held_table Nil held n h = or_false (get_or held.table n false)
  held_table (Cons head tail) held n h =
      both (get_or held.table n false) (get_or (with_variables head held).table n false)
      (get_or (with_variables tail (with_variables head held)).table n false)
      (holds n head) (holds n tail) (held_table tail (with_variables head held) n (rw (as_long head held) h)) (held_table head held n h)
  held_table (Binary bytes) held n h = or_false (get_or held.table n false)

  held_row : (row : Row) (held : Held) (n : ℕ) → n < length held.table
      → get_or (with_row row held).table n false ≡ (get_or held.table n false || row_holds n row)
  held_row Ends held n h = or_false (get_or held.table n false)
  held_row (More t row) held n h =
      both (get_or held.table n false) (get_or (with_variables t held).table n false) (get_or (with_row row (with_variables t held)).table n false)
      (holds n t) (row_holds n row) (held_row row (with_variables t held) n (rw (as_long t held) h)) (held_table t held n h)

name_places : (v : Option ℕ) (held : Held) → (with_variable v held).places ≡ max held.places (places_of_variable v)
name_places None held = omega arith
name_places (Some m) held = refl

mutual
  held_places : (t : Tree) (held : Held) → (with_variables t held).places ≡ max held.places (places t)
  held_places (Integer n) held = omega arith
  held_places (Atom text) held = name_places (variable_of text) held
  held_places (Tuple row) held = held_row_places row held
  held_places Nil held = omega arith
  held_places (Cons head tail) held = omega (arith, held_places tail (with_variables head held), held_places head held)
  held_places (Binary bytes) held = omega arith

  held_row_places : (row : Row) (held : Held) → (with_row row held).places ≡ max held.places (row_places row)
  held_row_places Ends held = omega arith
  held_row_places (More t row) held = omega (arith, held_row_places row (with_variables t held), held_places t held)

no_table : (head : Tree) (n : ℕ) → n < 100 → get_or (with_variables head none_met).table n false ≡ holds n head
no_table head n h =
    held_table head none_met n (omega (arith, length-replicate 100 false)) ∙ ap (λ (b : Bool). b || holds n head) (get_or-replicate 100 n false false h)

-- From none on, the variables that a head adds are those of the head.
pub none_held : (head : Tree) (none held : Held) → none ≡ none_met → held ≡ with_variables head none → AreOf head held
none_held head none held e f =
    let g : held ≡ with_variables head none_met = f ∙ ap (with_variables head) e in
    record {
      table_is = λ n h. ap (λ (x : Held). get_or x.table n false) g ∙ no_table head n h;
      places_are = ap (λ (x : Held). x.places) g ∙ omega (arith, held_places head none_met);
    }
