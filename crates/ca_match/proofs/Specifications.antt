-- Clauses and calls of specifications, by the parts that the checker sees.
use Rattle.std.proofs.Common.{◌≡◌, ℕ, suc, ◌≤◌, ◌<◌, ◌+◌, ◌-◌, true, false, List, [], ◌∷◌, length, take, drop, get_or, Option, Some, None, is_none, refl, ap, sym, ◌∙◌, arith}
use Rattle.std.specs.Prelude.{option_map}
use Rattle.std.specs.Option.{option_or}
use Rattle.std.proofs.lemmas.List.{take_all}
use Rattle.ca_term.specs.Tree.{Tree, Integer, Atom, Tuple, Nil, Cons, Binary, More, row_of, size}
use Rattle.ca_match.specs.Specification.{Reason, Part, NotAClause, call_fault, clause_fault, clauses_fault, faults, form_fault, tuple_fault}
use Rattle.ca_match.specs.SpecificationView.{call_fault_of}

-- A tuple of fewer than three elements is no clause.
pub too_short : (items : List Tree) → length items < 3 → clause_fault (Tuple (row_of items)) ≡ Some NotAClause
too_short [] h = refl
too_short (t ∷ []) h = refl
too_short (t ∷ u ∷ []) h = refl
too_short (t ∷ u ∷ v ∷ ts) h = absurd (omega arith)

-- A tuple of more than three elements is no clause.
pub too_long : (items : List Tree) → 4 ≤ length items → clause_fault (Tuple (row_of items)) ≡ Some NotAClause
too_long [] h = absurd (omega arith)
too_long (t ∷ []) h = absurd (omega arith)
too_long (t ∷ u ∷ []) h = absurd (omega arith)
too_long (t ∷ u ∷ v ∷ []) h = absurd (omega arith)
too_long (t ∷ u ∷ v ∷ a ∷ ts) h = refl

-- Whether clauses have a fault doesn't hang on the number of the first one.
pub numberless : (m n : ℕ) (t : Tree) → is_none (clauses_fault m t) ≡ is_none (clauses_fault n t)
unfolding clauses_fault
numberless m n (Integer i) = refl
numberless m n (Atom text) = refl
numberless m n (Tuple row) = refl
numberless m n Nil = refl
numberless m n (Cons clause clauses) = by (clause_fault clause) (numberless (m + 1) (n + 1) clauses)
  where
    by : (f : Option Reason) → is_none (clauses_fault (m + 1) clauses) ≡ is_none (clauses_fault (n + 1) clauses)
        → is_none (option_or (option_map (λ reason. (m, reason)) f) (clauses_fault (m + 1) clauses))
        ≡ is_none (option_or (option_map (λ reason. (n, reason)) f) (clauses_fault (n + 1) clauses))
    by None e = e
    by (Some reason) e = refl
numberless m n (Binary bytes) = refl

-- Where a clause has no fault, the clauses have one where those behind it do; else they have one.
pub clause_passes : (clause clauses : Tree) → true ≡ is_none (clause_fault clause)
    → is_none (clauses_fault 1 (Cons clause clauses)) ≡ is_none (clauses_fault 1 clauses)
unfolding clauses_fault
clause_passes clause clauses h = by (clause_fault clause) h
  where
    by : (f : Option Reason) → true ≡ is_none f
        → is_none (option_or (option_map (λ reason. (1, reason)) f) (clauses_fault (1 + 1) clauses)) ≡ is_none (clauses_fault 1 clauses)
    by None e = numberless (1 + 1) 1 clauses
    by (Some reason) e = cc

pub clause_fails : (clause clauses : Tree) → false ≡ is_none (clause_fault clause) → is_none (clauses_fault 1 (Cons clause clauses)) ≡ false
unfolding clauses_fault
clause_fails clause clauses h = by (clause_fault clause) h
  where
    by : (f : Option Reason) → false ≡ is_none f → is_none (option_or (option_map (λ reason. (1, reason)) f) (clauses_fault (1 + 1) clauses)) ≡ false
    by None e = cc
    by (Some reason) e = refl

-- What has no first fault is a specification.
pub no_fault : {X : Type 0} (f : Option X) → is_none f ≡ true → f ≡ None
no_fault None e = refl
no_fault (Some x) e = cc

-- a clause more
pub ruleset clause_by_clause = (clause_passes, clause_fails)

one_more : (n : ℕ) → suc n ≡ 1 + n
one_more n = omega arith

-- a tuple of more than one element is a call
form_is_call : (head : Tree) (part : Part) (t : Tree) (arguments : List Tree) → 0 < length arguments
    → form_fault head part (More t (row_of arguments)) ≡ call_fault_of head part t (row_of arguments)
unfolding form_fault faults
form_is_call head part t [] h = absurd (omega arith)
form_is_call head part t (u ∷ us) h = ap (λ (n : ℕ). call_fault part t n (faults head part (row_of (u ∷ us)))) (one_more (size (row_of us)))

-- A tuple of one element has the fault of a tuple that makes a tuple.
pub only_form : (head : Tree) (part : Part) (items : List Tree) (t : Tree) → 1 ≤ length items → length items < 2 → t ≡ get_or items 0 t
    → form_fault head part (row_of items) ≡ tuple_fault head part t
unfolding form_fault
only_form head part [] t h k e = absurd (omega arith)
only_form head part (u ∷ []) t h k e = ap (tuple_fault head part) (sym e)
only_form head part (u ∷ v ∷ us) t h k e = absurd (omega arith)

-- A tuple of more elements has the fault of a call.
pub call_form : (head : Tree) (part : Part) (items : List Tree) (t : Tree) → 2 ≤ length items → t ≡ get_or items 0 t
    → form_fault head part (row_of items) ≡ call_fault_of head part t (row_of (take (length items - 1) (drop 1 items)))
call_form head part [] t h e = absurd (omega arith)
call_form head part (u ∷ []) t h e = absurd (omega arith)
call_form head part (u ∷ v ∷ us) t h e =
    let behind : take (length (u ∷ v ∷ us) - 1) (v ∷ us) ≡ v ∷ us = take_all (length (u ∷ v ∷ us) - 1) (v ∷ us) (omega arith) in
    rw behind (form_is_call head part u (v ∷ us) (omega arith) ∙ ap (λ (x : Tree). call_fault_of head part x (row_of (v ∷ us))) (sym e))
