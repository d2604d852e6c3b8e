-- Tuples that are calls.
use Rattle.std.proofs.Common.{◌≡◌, ℕ, suc, ◌≤◌, ◌<◌, ◌+◌, ◌-◌, true, false, List, [], ◌∷◌, length, take, drop, get_or, ap, sym, ◌∙◌, arith}
use Rattle.std.specs.Prelude.{bytes_eq, codes}
use Rattle.ca_term.specs.Tree.{Tree, Atom, More, row_of, size}
use Rattle.ca_match.specs.Operators.{Operator, One, Two, Short, count_of}
use Rattle.ca_match.specs.Specification.{faults, form_fault, call_fault, is_call}
use Rattle.ca_spec.specs.ScopeView.{part_of, bad_in, form_fault_in, call_fault_in, faults_in, tuple_fault_in}
use Rattle.ca_spec.specs.declared.scope.Scope.{Scope}
use Rattle.std.proofs.lemmas.List.{take_all}
use Rattle.ca_term.proofs.Rows.{size_row}

one_more : (n : ℕ) → suc n ≡ 1 + n
one_more n = omega arith

-- a tuple of more than one element is a call
form_is_call : (scope : Scope) (t : Tree) (arguments : List Tree) → 0 < length arguments
    → form_fault_in scope (More t (row_of arguments)) ≡ call_fault_in scope t (row_of arguments)
unfolding form_fault faults
form_is_call scope t [] h = absurd (omega arith)
form_is_call scope t (u ∷ us) h =
    ap (λ (n : ℕ). call_fault (part_of scope.part) t n (faults_in scope (row_of (u ∷ us)))) (one_more (size (row_of us)))

-- The arguments of an operator that stands there with so many have the fault of the call.
pub call_well : (scope : Scope) (text : List ℕ) (arguments : List Tree) → bytes_eq text (codes "const") ≡ false
    → true ≡ is_call (part_of scope.part) text (length arguments)
    → call_fault_in scope (Atom text) (row_of arguments) ≡ faults_in scope (row_of arguments)
call_well scope text arguments other h = rw (other, size_row arguments, ← h)

-- A call of an operator that does not stand there with so many arguments is no expression.
pub call_bad : (scope : Scope) (text : List ℕ) (arguments : List Tree) → bytes_eq text (codes "const") ≡ false
    → false ≡ is_call (part_of scope.part) text (length arguments) → call_fault_in scope (Atom text) (row_of arguments) ≡ bad_in scope
call_bad scope text arguments other h = rw (other, size_row arguments, ← h)

-- What fault the call of an operator has, by whether it may stand there with so many arguments.
pub ruleset operator_faults = (call_well, call_bad)

-- An operator has at least one argument.
pub count_from : (operator : Operator) → 1 ≤ count_of operator
count_from (One f) = omega arith
count_from (Two f) = omega arith
count_from (Short stop) = omega arith

-- An operator has at most two arguments.
pub count_to : (operator : Operator) → count_of operator ≤ 2
count_to (One f) = omega arith
count_to (Two f) = omega arith
count_to (Short stop) = omega arith

-- An operator has one argument or two.
pub ruleset operand_faults = (count_from, count_to)

-- A tuple of one element has the fault of a tuple that makes a tuple.
pub only_form : (scope : Scope) (items : List Tree) (t : Tree) → 1 ≤ length items → length items < 2 → t ≡ get_or items 0 t
    → form_fault_in scope (row_of items) ≡ tuple_fault_in scope t
unfolding form_fault
only_form scope [] t h k e = absurd (omega arith)
only_form scope (u ∷ []) t h k e = ap (tuple_fault_in scope) (sym e)
only_form scope (u ∷ v ∷ us) t h k e = absurd (omega arith)

-- A tuple of more elements has the fault of a call.
pub call_form : (scope : Scope) (items : List Tree) (t : Tree) → 2 ≤ length items → t ≡ get_or items 0 t
    → form_fault_in scope (row_of items) ≡ call_fault_in scope t (row_of (take (length items - 1) (drop 1 items)))
call_form scope [] t h e = absurd (omega arith)
call_form scope (u ∷ []) t h e = absurd (omega arith)
call_form scope (u ∷ v ∷ us) t h e =
    let behind : take (length (u ∷ v ∷ us) - 1) (v ∷ us) ≡ v ∷ us = take_all (length (u ∷ v ∷ us) - 1) (v ∷ us) (omega arith) in
    rw behind (form_is_call scope u (v ∷ us) (omega arith) ∙ ap (λ (x : Tree). call_fault_in scope x (row_of (v ∷ us))) (sym e))
