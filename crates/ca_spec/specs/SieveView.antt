-- Sieves: which objects pass, and what that tells of their results.
use Rattle.std.specs.Prelude.{◌≡◌, ◌+◌, ◌<◌, ℕ, Bool, false, nat_le, ◌&&◌, List, [], ◌∷◌, length, slice_index_or, Option, Some, None, option_and_then, option_map, if◌then◌else◌}
use Rattle.std.specs.Option.{option_or}
use Rattle.std.specs.declared.cmp.Ordering.{Ordering}
use Rattle.std.specs.declared.cmp.Ordering.TheVariants.{Less, Equal, Greater}
use Rattle.ca_term.specs.Object.{elements_of}
use Rattle.ca_term.specs.Order.{term_cmp}
use Rattle.ca_term.specs.Tree.{Tree, Atom, Tuple, Nil, Cons, Ends, More, elements}
use Rattle.ca_match.specs.declared.operator.Operator.{Operator}
use Rattle.ca_match.specs.Match.{Scene, bound, is_truth, result_of, value}
use Rattle.ca_match.specs.OperatorView.{meaning_of}
use Rattle.ca_match.specs.Operators.{applied, truth}
use Rattle.ca_match.specs.Specification.{is_variable}
use Rattle.ca_match.specs.Spelling.{variable_name}
use Rattle.ca_order.specs.CodesView.{tree_of}
use Rattle.ca_spec.specs.ByCode.{is_comparison, is_constant, variable_in}
use Rattle.ca_spec.specs.declared.sieve.Orders.{Orders}
use Rattle.ca_spec.specs.declared.sieve.Sieve.{Sieve}

-- whether an order is one of some
abbrev pub has : Orders → Ordering → Bool
has orders Less = orders.less
has orders Equal = orders.equal
has orders Greater = orders.greater

-- whether a sieve lets an object pass: it is a tuple with an element at the place, which stands to the constant in one of the orders
abbrev pub passes : Sieve → Tree → Bool
passes sieve object =
    nat_le (sieve.place + 1) (length (elements_of object))
    && has sieve.orders (term_cmp (slice_index_or (elements_of object) sieve.place Nil) (tree_of sieve.constant))

-- Objects that don't pass have no result.
abbrev pub IsSieveOf : Tree → Sieve → Type 0
IsSieveOf specification sieve = (object : Tree) → passes sieve object ≡ false → result_of specification object ≡ None

-- ---- how a sieve is made of a guard

-- The operator is a comparison, which is so of two terms of this order.
abbrev pub IsSoAt : Operator → Ordering → Bool → Type 0
IsSoAt operator order so = (t u : Tree) → term_cmp t u ≡ order → applied (meaning_of operator) (Some t ∷ Some u ∷ []) ≡ Some (truth so)

-- The operator is a comparison, which is true in these orders.
abbrev pub Compares : Operator → Orders → Type 0
Compares operator orders = (t u : Tree) → applied (meaning_of operator) (Some t ∷ Some u ∷ []) ≡ Some (truth (has orders (term_cmp t u)))

-- The guard is true where what is bound to this variable stands to a constant in one of these orders, and else false.
abbrev pub IsGuardOf : Tree → ℕ → Orders → Tree → Type 0
IsGuardOf guard number orders constant =
    (number < 100) × ((scene : Scene) (t : Tree) → bound scene.bindings number ≡ Some t
    → value scene guard ≡ Some (truth (has orders (term_cmp t constant))))

-- The variable stands at this place of a head's parts.
abbrev pub StandsAt : List Tree → ℕ → ℕ → Type 0
StandsAt parts number place = (place < length parts) × (slice_index_or parts place Nil ≡ Atom (variable_name number))

-- ---- where there is a sieve

-- the variable that a guard {Op,V,C} or {Op,C,V} compares with a constant
abbrev pub variable_with : Tree → Tree → Option ℕ
variable_with a b = if is_constant b then variable_in a else None

abbrev pub compared : Tree → Option ℕ
compared (Tuple (More (Atom name) (More a (More b Ends)))) =
    if is_comparison name then option_or (variable_with a b) (variable_with b a) else None
compared t = None

-- the first place of a variable among the parts of a head
abbrev pub first_place : ℕ → List Tree → Option ℕ
first_place number [] = None
first_place number (part ∷ parts) =
    if is_variable number (variable_in part) then Some 0 else option_map (λ place. place + 1) (first_place number parts)

-- a guard with its variable, and the place where that stands in the head
pub record Compared : Type 0 where
  pub guard : Tree
  pub number : ℕ
  pub place : ℕ

-- What the first guard of a clause compares with a constant, where that is a part of the head.
abbrev pub compared_by : Tree → Option Compared
compared_by (Tuple (More (Tuple row) (More (Cons guard guards) (More body Ends)))) =
    option_and_then (λ number. option_map (λ place. record { guard = guard; number = number; place = place }) (first_place number (elements row)))
    (compared guard)
compared_by t = None

-- So it is of a specification of one clause.
abbrev pub compared_first : Tree → Option Compared
compared_first (Cons clause Nil) = compared_by clause
compared_first t = None

-- A sieve was found exactly where there is such a guard. It lets those tuples pass for which the guard is true, with its variable bound to the
-- element at that place.
abbrev pub IsFound : Option Compared → Option Sieve → Type 0
IsFound None found = found ≡ None
IsFound (Some c) None = ⊥
IsFound (Some c) (Some sieve) = (object : Tree) (scene : Scene)
    → bound scene.bindings c.number ≡ Some (slice_index_or (elements_of object) c.place Nil)
    → passes sieve object ≡ (nat_le (c.place + 1) (length (elements_of object)) && is_truth (value scene c.guard))
