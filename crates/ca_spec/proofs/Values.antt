-- Values of expressions.
use Rattle.std.proofs.Common.{◌≡◌, ◌≢◌, ℕ, ◌≤◌, ◌<◌, ◌+◌, Bool, true, false, List, [], ◌∷◌, length, drop, get_or, Option, Some, None, refl, ap, sym, ◌∙◌, arith, add-one, drop-cons}
use Rattle.std.proofs.lemmas.List.{drop_all}
use Rattle.std.specs.Prelude.{codes, if◌then◌else◌, is_none, not, option_and_then, option_map, ◌&&◌, ◌||◌}
use Rattle.ca_term.specs.Tree.{Tree, Row, Integer, Atom, Tuple, Nil, Cons, Binary, Ends, More, list_of, nodes, row_nodes, row_of}
use Rattle.ca_match.specs.Match.{Scene, all_bound, all_values, bound, is_truth, name_value, pass, tuple_of, value, values, within}
use Rattle.ca_match.specs.declared.operator.Operator.{Operator as Code}
use Rattle.ca_match.specs.OperatorView.{meaning_of, name_of, stop_of}
use Rattle.ca_match.specs.Operators.{Operator, One, Two, Short, applied, short, truth, truth_of}
use Rattle.ca_match.specs.Spelling.{variable_name}
use Rattle.ca_match.specs.Variable.{is_all_bound, is_whole, variable_of}
pub use Rattle.ca_match.proofs.Gathered.{behind, values_from}
use Rattle.ca_spec.specs.Parts.{tail_le-list}
use Rattle.ca_spec.specs.ExpressionView.{is_itself}
use Rattle.ca_spec.proofs.Built.{listed_of, more_cells, one_cell}
use Rattle.ca_spec.proofs.Named.{named, not_const}
use Rattle.ca_spec.proofs.Names.{not_all_bound, not_whole, number_of_name}

-- ---- by the form

variable_is : (s : Scene) (n : ℕ) → n < 100 → value s (Atom (variable_name n)) ≡ bound s.bindings n
unfolding value
variable_is s n h = rw (not_whole n, not_all_bound n, number_of_name n h) refl

-- The value of a variable is what is bound to it.
pub variable_value : (s : Scene) (e : Tree) (n : ℕ) → n < 100 → Atom (variable_name n) ≡ e → bound s.bindings n ≡ value s e
variable_value s e n h f = sym (variable_is s n h) ∙ ap (value s) f

whole_is : (s : Scene) → Some s.object ≡ value s (Atom (codes "$_"))
unfolding value
whole_is s = refl

-- The value of '$_' is the object.
pub whole_value : (s : Scene) (e : Tree) → Atom (codes "$_") ≡ e → Some s.object ≡ value s e
whole_value s e f = whole_is s ∙ ap (value s) f

all_is : (s : Scene) → within (all_bound s.bindings) ≡ value s (Atom (codes "$$"))
unfolding value
all_is s = refl

-- The value of '$$' is the list of what is bound, unless it is too deep.
pub all_value : (s : Scene) (e : Tree) → Atom (codes "$$") ≡ e → within (all_bound s.bindings) ≡ value s e
all_value s e f = all_is s ∙ ap (value s) f

name_is : (s : Scene) (text : List ℕ) (w a : Bool) (v : Option ℕ) → (not (w || a) && is_none v) ≡ true
    → Some (Atom text) ≡ (if w then Some s.object else (if a then within (all_bound s.bindings) else name_value s text v))
name_is s text true a v h = cc
name_is s text false true v h = cc
name_is s text false false None h = refl
name_is s text false false (Some n) h = cc

-- An expression that is its own value has itself as its value.
pub literal_value : (s : Scene) (e : Tree) → is_itself e ≡ true → Some e ≡ value s e
unfolding value
literal_value s (Integer n) h = refl
literal_value s (Atom text) h = name_is s text (is_whole text) (is_all_bound text) (variable_of text) h
literal_value s (Tuple row) h = cc
literal_value s Nil h = refl
literal_value s (Cons head tail) h = cc
literal_value s (Binary bytes) h = refl

constant_is : (s : Scene) (t : Tree) → Some t ≡ value s (Tuple (More (Atom (codes "const")) (More t Ends)))
unfolding value
constant_is s t = refl

-- A constant has its own term as its value.
pub constant_value : (s : Scene) (e t : Tree) → Tuple (More (Atom (codes "const")) (More t Ends)) ≡ e → Some t ≡ value s e
constant_value s e t f = constant_is s t ∙ ap (value s) f

tuple_is : (s : Scene) (row : Row) → tuple_of (values s row) ≡ value s (Tuple (More (Tuple row) Ends))
unfolding value
tuple_is s row = refl

-- The value of a tuple in a tuple is the tuple of the values of its elements.
pub tuple_value : (s : Scene) (e : Tree) (row : Row) → Tuple (More (Tuple row) Ends) ≡ e → tuple_of (values s row) ≡ value s e
tuple_value s e row f = tuple_is s row ∙ ap (value s) f

one_is : (s : Scene) (operator : Code) (a : Tree)
    → applied (meaning_of operator) (value s a ∷ []) ≡ value s (Tuple (More (Atom (name_of operator)) (More a Ends)))
unfolding value
one_is s operator a = rw (not_const operator, named operator) refl

-- The value of a call with one argument is the operator at the value of the argument.
pub one_value : (s : Scene) (e : Tree) (operator : Code) (a : Tree) → Tuple (More (Atom (name_of operator)) (More a Ends)) ≡ e
    → applied (meaning_of operator) (value s a ∷ []) ≡ value s e
one_value s e operator a f = one_is s operator a ∙ ap (value s) f

two_is : (s : Scene) (operator : Code) (a b : Tree)
    → applied (meaning_of operator) (value s a ∷ value s b ∷ []) ≡ value s (Tuple (More (Atom (name_of operator)) (More a (More b Ends))))
unfolding value
two_is s operator a b = rw (not_const operator, named operator) refl

-- The value of a call with two arguments is the operator at their values.
pub two_value : (s : Scene) (e : Tree) (operator : Code) (a b : Tree) → Tuple (More (Atom (name_of operator)) (More a (More b Ends))) ≡ e
    → applied (meaning_of operator) (value s a ∷ value s b ∷ []) ≡ value s e
two_value s e operator a b f = two_is s operator a b ∙ ap (value s) f

-- ---- operators

-- An operator of one argument fails where the argument does.
pub none_of_one : (operator : Operator) → None ≡ applied operator (None ∷ [])
none_of_one (One f) = refl
none_of_one (Two f) = refl
none_of_one (Short stop) = refl

-- An operator of two arguments fails where the first one does.
pub none_of_first : (operator : Operator) (a b : Option Tree) → None ≡ a → None ≡ applied operator (a ∷ b ∷ [])
none_of_first (One f) a b e = refl
none_of_first (Two f) None b e = refl
none_of_first (Two f) (Some t) b e = cc
none_of_first (Short stop) None b e = refl
none_of_first (Short stop) (Some t) b e = cc

-- An operator that evaluates both arguments fails where the second one does.
pub none_of_second : (operator : Operator) (a b : Option Tree) → stop_of operator ≡ None → None ≡ b → None ≡ applied operator (a ∷ b ∷ [])
none_of_second (One f) a b s e = refl
none_of_second (Two f) None b s e = refl
none_of_second (Two f) (Some t) None s e = refl
none_of_second (Two f) (Some t) (Some u) s e = cc
none_of_second (Short stop) a b s e = cc

-- An operator that may stop at a truth value is the short one that stops there.
pub short_is : (operator : Operator) (stop : Bool) (vs : List (Option Tree)) → stop_of operator ≡ Some stop → applied (Short stop) vs ≡ applied operator vs
short_is (One f) stop vs e = cc
short_is (Two f) stop vs e = cc
short_is (Short b) stop vs e = ap (λ (x : Bool). applied (Short x) vs) (some_is stop b (sym e))
  where
    some_is : (p q : Bool) → Some p ≡ Some q → p ≡ q
    some_is p q h = cc

abbrev short_by : Bool → Option Tree → Option Bool → Option Tree
short_by stop b p = option_and_then (short stop b) p

short_truth : (stop : Bool) (a b : Option Tree) → short_by stop b (option_and_then truth_of a) ≡ applied (Short stop) (a ∷ b ∷ [])
short_truth stop None b = refl
short_truth stop (Some t) b = refl

-- `andalso` or `orelse` fails where its first argument is no truth value.
pub short_none : (stop : Bool) (a b : Option Tree) → None ≡ option_and_then truth_of a → None ≡ applied (Short stop) (a ∷ b ∷ [])
short_none stop a b e = ap (short_by stop b) e ∙ short_truth stop a b

stops_at : (stop p : Bool) (b : Option Tree) → p ≡ stop → Some (truth p) ≡ short stop b p
stops_at true true b e = refl
stops_at true false b e = cc
stops_at false true b e = cc
stops_at false false b e = refl

-- The value of `andalso` or `orelse` is its first argument where it stops there.
pub short_stop : (stop p : Bool) (a b : Option Tree) → p ≡ stop → Some p ≡ option_and_then truth_of a → Some (truth p) ≡ applied (Short stop) (a ∷ b ∷ [])
short_stop stop p a b s e = stops_at stop p b s ∙ ap (short_by stop b) e ∙ short_truth stop a b

truths_of : (b : Option Tree) → option_map truth (option_and_then truth_of b) ≡ option_and_then (λ t. option_map truth (truth_of t)) b
truths_of None = refl
truths_of (Some t) = refl

goes_on : (stop p : Bool) (b : Option Tree) → p ≢ stop → option_map truth (option_and_then truth_of b) ≡ short stop b p
goes_on true true b n = absurd (n refl)
goes_on true false b n = truths_of b
goes_on false true b n = truths_of b
goes_on false false b n = absurd (n refl)

-- The value of `andalso` or `orelse` that does not stop is its second argument, where that is a truth value.
pub short_second : (stop p : Bool) (a b : Option Tree) → p ≢ stop → Some p ≡ option_and_then truth_of a
    → option_map truth (option_and_then truth_of b) ≡ applied (Short stop) (a ∷ b ∷ [])
short_second stop p a b n e = goes_on stop p b n ∙ ap (short_by stop b) e ∙ short_truth stop a b

-- ---- lists

list_is : (s : Scene) (heads : List Tree) (tail : Tree) → 0 < length heads
    → listed_of (all_values (values s (row_of heads))) (value s tail) ≡ value s (list_of heads tail)
unfolding value values
list_is s [] tail h = absurd (omega arith)
list_is s (t ∷ []) tail h = sym (one_cell (value s t) (value s tail))
list_is s (t ∷ u ∷ us) tail h =
    sym (more_cells (value s t) (all_values (values s (row_of (u ∷ us)))) (value s tail))
    ∙ ap (λ (x : Option Tree). option_and_then (λ v. option_and_then (λ w. within (Cons v w)) x) (value s t)) (list_is s (u ∷ us) tail (omega arith))

-- The list that is built of the values is the value of the list.
pub list_built : (s : Scene) (heads : List Tree) (tail : Tree) (ts : List Tree) (u : Tree) (r : Option Tree) → 0 < length heads
    → Some ts ≡ all_values (values s (row_of heads)) → Some u ≡ value s tail → r ≡ within (list_of ts u) → r ≡ value s (list_of heads tail)
list_built s heads tail ts u r h e f g =
    g ∙ ap (λ (x : Option (List Tree)). listed_of x (Some u)) e ∙ ap (listed_of (all_values (values s (row_of heads)))) f ∙ list_is s heads tail h

-- A list fails where one of its heads does.
pub list_no_head : (s : Scene) (heads : List Tree) (tail : Tree) → 0 < length heads → None ≡ all_values (values s (row_of heads))
    → None ≡ value s (list_of heads tail)
list_no_head s heads tail h e = ap (λ (x : Option (List Tree)). listed_of x (value s tail)) e ∙ list_is s heads tail h

no_list : (heads : Option (List Tree)) → None ≡ listed_of heads None
no_list None = refl
no_list (Some ts) = refl

-- A list fails where its tail does.
pub list_no_tail : (s : Scene) (heads : List Tree) (tail : Tree) → 0 < length heads → None ≡ value s tail → None ≡ value s (list_of heads tail)
list_no_tail s heads tail h e =
    no_list (all_values (values s (row_of heads))) ∙ ap (listed_of (all_values (values s (row_of heads)))) e ∙ list_is s heads tail h

-- ---- guards

-- Whether the guards from one on hold.
abbrev pub pass_from : Scene → List Tree → ℕ → Bool
pass_from s guards k = pass s (list_of (drop k guards) Nil)

guard_at : (s : Scene) (guards : List Tree) (k : ℕ) (d : Tree) → k < length guards
    → pass_from s guards k ≡ (is_truth (value s (get_or guards k d)) && pass_from s guards (k + 1))
unfolding pass
guard_at s guards k d h = rw (add-one, drop-cons guards k d) refl

-- Where a guard is true, the guards behind it decide.
pub guard_holds : (s : Scene) (guards : List Tree) (k : ℕ) (d : Tree) (all : Bool) → k < length guards → all ≡ pass_from s guards k
    → is_truth (value s (get_or guards k d)) ≡ true → all ≡ pass_from s guards (k + 1)
guard_holds s guards k d all h a e = a ∙ guard_at s guards k d h ∙ ap (λ (b : Bool). b && pass_from s guards (k + 1)) e

-- Where a guard is not true, the guards do not all hold.
pub guard_fails : (s : Scene) (guards : List Tree) (k : ℕ) (d : Tree) (all : Bool) → k < length guards → all ≡ pass_from s guards k
    → is_truth (value s (get_or guards k d)) ≡ false → all ≡ false
guard_fails s guards k d all h a e = a ∙ guard_at s guards k d h ∙ ap (λ (b : Bool). b && pass_from s guards (k + 1)) e

-- Behind the last guard all of them hold.
pub guards_end : (s : Scene) (guards : List Tree) (k : ℕ) (all : Bool) → length guards ≤ k → all ≡ pass_from s guards k → all ≡ true
unfolding pass
guards_end s guards k all h a = a ∙ (rw (drop_all k guards h) refl)

-- ---- exits

-- What `andalso` or `orelse` makes of the values of its arguments is its value.
pub short_is_value : (s : Scene) (e : Tree) (operator : Code) (stop : Bool) (a b : Tree)
    → Tuple (More (Atom (name_of operator)) (More a (More b Ends))) ≡ e → Some stop ≡ stop_of (meaning_of operator)
    → applied (Short stop) (value s a ∷ value s b ∷ []) ≡ value s e
short_is_value s e operator stop a b f h =
    short_is (meaning_of operator) stop (value s a ∷ value s b ∷ []) (sym h) ∙ two_value s e operator a b f

-- The heads of a list have fewer nodes than the list.
pub heads_nodes : (heads : List Tree) (tail : Tree) → row_nodes (row_of heads) + length heads ≤ nodes (list_of heads tail)
heads_nodes [] tail = omega arith
heads_nodes (t ∷ ts) tail = omega (arith, heads_nodes ts tail)

-- The value of each form of expression.
pub ruleset expression_values =
    (variable_value, whole_value, all_value, literal_value, constant_value, tuple_value, one_value, two_value, none_of_one, short_is)

-- An operator whose argument fails has no value.
pub ruleset two_values = (none_of_first, none_of_second)

-- The value of `andalso` or `orelse`, by the truth of the first argument.
pub ruleset short_values = (short_none, short_stop, short_second)

-- The value of a list by the values of its heads and its tail.
pub ruleset list_values = (list_built, list_no_head, list_no_tail, tail_le-list, heads_nodes)

-- The guards all hold where each one holds, from the first on.
pub ruleset guard_values = (guard_holds, guard_fails, guards_end)
