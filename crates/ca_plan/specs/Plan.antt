-- The key that every object has to which a match specification gives a result.
-- Source: the ets manual's match: where the pattern gives the key, the table isn't searched; one key in all clauses is this project's own rule.
use Rattle.std.specs.Prelude.{◌≡◌, ◌≢◌, ℕ, Bool, true, false, not, ◌&&◌, Option, Some, None, is_none, option_and_then, if◌then◌else◌}
use Rattle.std.specs.Ordering.{is_eq}
use Rattle.ca_term.specs.Tree.{Tree, Row, Integer, Atom, Tuple, Nil, Cons, Binary, Ends, More}
use Rattle.ca_term.specs.Object.{is_object, key_of}
use Rattle.ca_term.specs.Order.{term_cmp}
use Rattle.ca_match.specs.Match.{result_of}
use Rattle.ca_match.specs.Variable.{is_wildcard, variable_of}
use Rattle.ca_plan.specs.declared.answer.Plan.{Plan}
use Rattle.ca_plan.specs.declared.answer.Plan.TheVariants as plan

abbrev mutual
  -- whether a part of a head holds no variable and no '_', so that it fits an equal term alone
  pub is_fixed : Tree → Bool
  is_fixed (Integer n) = true
  is_fixed (Atom text) = not (is_wildcard text) && is_none (variable_of text)
  is_fixed (Tuple row) = is_fixed_row row
  is_fixed Nil = true
  is_fixed (Cons head tail) = is_fixed head && is_fixed tail
  is_fixed (Binary bytes) = true

  pub is_fixed_row : Row → Bool
  is_fixed_row Ends = true
  is_fixed_row (More t row) = is_fixed t && is_fixed_row row

-- The key that a head fixes: it is a tuple that has one, without variables and '_'.
abbrev pub head_key : ℕ → Tree → Option Tree
head_key keypos head = if is_object keypos head && is_fixed (key_of keypos head) then Some (key_of keypos head) else None

-- the key that a clause fixes by its head, the first element
abbrev pub clause_key : ℕ → Tree → Option Tree
clause_key keypos (Tuple (More head parts)) = head_key keypos head
clause_key keypos t = None

abbrev pub is_key : Tree → Option Tree → Bool
is_key key None = false
is_key key (Some own) = is_eq (term_cmp own key)

-- whether a clause fixes this key
abbrev pub fixes : ℕ → Tree → Tree → Bool
fixes keypos key clause = is_key key (clause_key keypos clause)

-- whether each clause of a list fixes this key
abbrev pub all_fix : ℕ → Tree → Tree → Bool
all_fix keypos key (Integer n) = true
all_fix keypos key (Atom text) = true
all_fix keypos key (Tuple row) = true
all_fix keypos key Nil = true
all_fix keypos key (Cons clause clauses) = fixes keypos key clause && all_fix keypos key clauses
all_fix keypos key (Binary bytes) = true

-- The key that the first clause of a specification fixes and all others fix too.
abbrev pub shared_key : ℕ → Tree → Option Tree
shared_key keypos (Cons clause clauses) = option_and_then (λ key. if all_fix keypos key clauses then Some key else None) (clause_key keypos clause)
shared_key keypos t = None

abbrev pub plan_of : Option Tree → Plan
plan_of (Some key) = plan.Key key
plan_of None = plan.All

-- Every object with a result has the plan's key.
abbrev pub Covers : ℕ → Tree → Plan → Type 0
Covers keypos specification (plan.Key key) = (object : Tree) → result_of specification object ≢ None → key_of keypos object ≡ key
Covers keypos specification plan.All = Unit {0}
