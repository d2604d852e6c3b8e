-- Values that are parts of a code, and comparisons of them.
use Rattle.std.proofs.Common.{◌≡◌, ◌≢◌, ℕ, Bool, true, false, [], ◌∷◌, Option, Some, None, refl, ap, sym, ◌∙◌, subst}
use Rattle.std.specs.Prelude.{◌==◌, ◌||◌, IfSome, MatchOption, not, option_and_then, option_map}
use Rattle.ca_term.specs.Order.{rank}
use Rattle.ca_term.specs.Tree.{Tree, Integer, Atom, Tuple, Nil, Cons, Binary}
use Rattle.ca_match.specs.Match.{is_truth}
use Rattle.ca_match.specs.Operators.{One, Operator, Short, applied, is_atom, is_binary, is_integer, is_list, is_tuple, negation, test, truth, truth_of}
use Rattle.ca_order.specs.declared.codes.Part.{Part}
use Rattle.ca_order.specs.CodesView.{tree_of}
use Rattle.ca_spec.specs.PartBound.{part_at}
use Rattle.ca_spec.proofs.Values.{short_second, short_stop}

-- A part with a constant's code is a value of the constant.
pub part_value : (P : Type 0) (r : Option Part) (t : Tree) (v : Option Tree) → MatchOption r P (λ part. tree_of part ≡ t) → Some t ≡ v
    → IfSome r (λ part. Some (tree_of part) ≡ v)
part_value P None t v h e = tt
part_value P (Some part) t v h e = ap (λ (x : Tree). Some x) h ∙ e

-- What is bound to a variable is its value, where a part is.
pub bound_value : (r : Option Part) (b v : Option Tree) → part_at r ≡ b → b ≡ v → IfSome r (λ part. Some (tree_of part) ≡ v)
bound_value None b v h e = tt
bound_value (Some part) b v h e = h ∙ e

truth_back : (b : Bool) → Some b ≡ truth_of (truth b)
truth_back true = refl
truth_back false = refl

truth_in_value : (b : Bool) (v : Option Tree) → Some (truth b) ≡ v → Some b ≡ option_and_then truth_of v
truth_in_value b v e = truth_back b ∙ ap (option_and_then truth_of) e

-- `andalso` or `orelse` of a first argument that stops it is that truth value.
pub short_stops : (stop p : Bool) (a b : Option Tree) → p ≡ stop → Some (truth p) ≡ a → Some (truth p) ≡ applied (Short stop) (a ∷ b ∷ [])
short_stops stop p a b s e = short_stop stop p a b s (truth_in_value p a e)

-- Else it is the truth value that the second argument is.
pub short_goes_on : (stop p q : Bool) (a b : Option Tree) → p ≢ stop → Some (truth p) ≡ a → Some (truth q) ≡ b
    → Some (truth q) ≡ applied (Short stop) (a ∷ b ∷ [])
short_goes_on stop p q a b n e f =
    ap (option_map truth) (truth_in_value q b f) ∙ short_second stop p a b n (truth_in_value p a e)

-- `not` of a truth value is the other one.
pub negated : (p : Bool) (a : Option Tree) → Some (truth p) ≡ a → Some (truth (not p)) ≡ applied (One negation) (a ∷ [])
negated p a e = ap (λ (x : Option Bool). option_map (λ b. truth (not b)) x) (truth_back p) ∙ ap (λ (x : Option Tree). option_and_then negation x) e

-- A test of a term's kind is one of the place of its kind in the order of kinds.
pub test_of_integer : (t : Tree) (r : ℕ) → r ≡ rank t → Some (truth (r == 0)) ≡ test is_integer t
test_of_integer (Integer n) r e = rw e refl
test_of_integer (Atom text) r e = rw e refl
test_of_integer (Tuple row) r e = rw e refl
test_of_integer Nil r e = rw e refl
test_of_integer (Cons head tail) r e = rw e refl
test_of_integer (Binary bytes) r e = rw e refl

pub test_of_atom : (t : Tree) (r : ℕ) → r ≡ rank t → Some (truth (r == 1)) ≡ test is_atom t
test_of_atom (Integer n) r e = rw e refl
test_of_atom (Atom text) r e = rw e refl
test_of_atom (Tuple row) r e = rw e refl
test_of_atom Nil r e = rw e refl
test_of_atom (Cons head tail) r e = rw e refl
test_of_atom (Binary bytes) r e = rw e refl

pub test_of_tuple : (t : Tree) (r : ℕ) → r ≡ rank t → Some (truth (r == 2)) ≡ test is_tuple t
test_of_tuple (Integer n) r e = rw e refl
test_of_tuple (Atom text) r e = rw e refl
test_of_tuple (Tuple row) r e = rw e refl
test_of_tuple Nil r e = rw e refl
test_of_tuple (Cons head tail) r e = rw e refl
test_of_tuple (Binary bytes) r e = rw e refl

pub test_of_list : (t : Tree) (r : ℕ) → r ≡ rank t → Some (truth (r == 3 || r == 4)) ≡ test is_list t
test_of_list (Integer n) r e = rw e refl
test_of_list (Atom text) r e = rw e refl
test_of_list (Tuple row) r e = rw e refl
test_of_list Nil r e = rw e refl
test_of_list (Cons head tail) r e = rw e refl
test_of_list (Binary bytes) r e = rw e refl

pub test_of_binary : (t : Tree) (r : ℕ) → r ≡ rank t → Some (truth (r == 5)) ≡ test is_binary t
test_of_binary (Integer n) r e = rw e refl
test_of_binary (Atom text) r e = rw e refl
test_of_binary (Tuple row) r e = rw e refl
test_of_binary Nil r e = rw e refl
test_of_binary (Cons head tail) r e = rw e refl
test_of_binary (Binary bytes) r e = rw e refl

-- A value of an argument that is told is that of the argument.
pub tested_value : (operator : Operator) (r : Option Bool) (t : Tree) (a : Option Tree)
    → IfSome r (λ holds. Some (truth holds) ≡ applied operator (Some t ∷ [])) → Some t ≡ a
    → IfSome r (λ holds. Some (truth holds) ≡ applied operator (a ∷ []))
tested_value operator r t a h e = subst (λ (x : Option Tree). IfSome r (λ holds. Some (truth holds) ≡ applied operator (x ∷ []))) e h

truth_is : (b : Bool) → is_truth (Some (truth b)) ≡ b
truth_is true = refl
truth_is false = refl

-- A guard whose value is a truth value is true where that is.
pub truth_known : (b : Bool) (v : Option Tree) → Some (truth b) ≡ v → is_truth v ≡ b
truth_known b v e = ap is_truth (sym e) ∙ truth_is b

-- The value of `andalso` or `orelse` of truth values.
pub ruleset short_known = (short_stops, short_goes_on)

-- The value of an operator of one argument.
pub ruleset value_of_one_known = (negated, tested_value)

-- Tests of terms' kinds.
pub ruleset kind_tests = (test_of_integer, test_of_atom, test_of_tuple, test_of_list, test_of_binary)
