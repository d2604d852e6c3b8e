-- Results of clauses and specifications.
use Rattle.std.proofs.Common.{◌≡◌, ℕ, ◌≤◌, ◌<◌, ◌+◌, Bool, true, false, List, length, drop, get_or, map, Option, Some, None, refl, ap, sym, ◌∙◌, add-one, drop-cons}
use Rattle.std.proofs.lemmas.List.{drop_all}
use Rattle.std.specs.Prelude.{if◌then◌else◌, option_and_then}
use Rattle.std.specs.Option.{option_or}
use Rattle.ca_term.specs.Tree.{Tree, Tuple, Nil, Cons, Ends, More, list_of}
use Rattle.ca_match.specs.Match.{Bindings, Scene, bind, clause_result, guarded, no_bindings, pass, result_of, value}
use Rattle.ca_spec.specs.ClauseView.{tree_of_clause, trees_of_clauses}
use Rattle.ca_spec.specs.declared.clause.Clause.{Clause}

-- ---- a clause

abbrev scene : Tree → Bindings → Scene
scene object bindings = record { object = object; bindings = bindings }

abbrev on : Tree → Tree → Tree → Option Bindings → Option Tree
on object guards body bound = option_and_then (λ bindings. guarded (scene object bindings) guards body) bound

abbrev clause_tree : Tree → Tree → Tree → Tree
clause_tree head guards body = Tuple (More head (More guards (More (Cons body Nil) Ends)))

bound_result : (head guards body object : Tree) (b c : Bindings) (r : Bool) → b ≡ no_bindings → bind head object b ≡ (if r then Some c else None)
    → on object guards (Cons body Nil) (if r then Some c else None) ≡ clause_result (clause_tree head guards body) object
bound_result head guards body object b c r e f =
    ap (on object guards (Cons body Nil)) (sym f ∙ ap (bind head object) e)

-- A clause whose head does not fit has no result.
pub no_fit : (head guards body object : Tree) (b c : Bindings) (r : Bool) → b ≡ no_bindings → bind head object b ≡ (if r then Some c else None)
    → r ≡ false → None ≡ clause_result (Tuple (More head (More guards (More (Cons body Nil) Ends)))) object
no_fit head guards body object b c r e f n =
    ap (λ (x : Bool). on object guards (Cons body Nil) (if x then Some c else None)) (sym n) ∙ bound_result head guards body object b c r e f

-- A clause with a guard that is not true has no result.
pub no_pass : (head guards body object : Tree) (b c : Bindings) (r p : Bool) → b ≡ no_bindings → bind head object b ≡ (if r then Some c else None)
    → r ≡ true → p ≡ pass (record { object = object; bindings = c }) guards → p ≡ false
    → None ≡ clause_result (Tuple (More head (More guards (More (Cons body Nil) Ends)))) object
no_pass head guards body object b c r p e f n g q =
    ap (λ (x : Bool). if x then value (scene object c) body else None) (sym q ∙ g)
    ∙ ap (λ (x : Bool). on object guards (Cons body Nil) (if x then Some c else None)) (sym n) ∙ bound_result head guards body object b c r e f

-- A clause whose head fits and whose guards hold has the value of its body as its result.
pub holds : (head guards body object : Tree) (b c : Bindings) (r p : Bool) → b ≡ no_bindings → bind head object b ≡ (if r then Some c else None)
    → r ≡ true → p ≡ pass (record { object = object; bindings = c }) guards → p ≡ true
    → value (record { object = object; bindings = c }) body ≡ clause_result (Tuple (More head (More guards (More (Cons body Nil) Ends)))) object
holds head guards body object b c r p e f n g q =
    ap (λ (x : Bool). if x then value (scene object c) body else None) (sym q ∙ g)
    ∙ ap (λ (x : Bool). on object guards (Cons body Nil) (if x then Some c else None)) (sym n) ∙ bound_result head guards body object b c r e f

-- A clause whose head fits has as its result what its body is, where its guards hold.
pub fits : (head guards body object : Tree) (b c : Bindings) (r : Bool) (v : Option Tree) → b ≡ no_bindings
    → bind head object b ≡ (if r then Some c else None) → r ≡ true → v ≡ guarded (record { object = object; bindings = c }) guards (Cons body Nil)
    → v ≡ clause_result (Tuple (More head (More guards (More (Cons body Nil) Ends)))) object
fits head guards body object b c r v e f n g =
    g ∙ ap (λ (x : Bool). on object guards (Cons body Nil) (if x then Some c else None)) (sym n) ∙ bound_result head guards body object b c r e f

-- The result of a clause, by whether its head fits and its guards hold.
pub ruleset clause_results = (no_fit, no_pass, holds)

-- Where a guard isn't true, a body comes to nothing.
pub not_guarded : (s : Scene) (guards body : Tree) (p : Bool) → p ≡ pass s guards → p ≡ false → None ≡ guarded s guards (Cons body Nil)
not_guarded s guards body p g q = ap (λ (x : Bool). if x then value s body else None) (sym q ∙ g)

-- Where the guards hold, it comes to its value.
pub is_guarded : (s : Scene) (guards body : Tree) (p : Bool) → p ≡ pass s guards → p ≡ true → value s body ≡ guarded s guards (Cons body Nil)
is_guarded s guards body p g q = ap (λ (x : Bool). if x then value s body else None) (sym q ∙ g)

-- What a body comes to, by whether the guards hold.
pub ruleset guarded_results = (not_guarded, is_guarded)

-- ---- clauses

-- The result that the clauses from one on give.
abbrev pub result_from : List Clause → Tree → ℕ → Option Tree
result_from clauses object k = result_of (list_of (map tree_of_clause (drop k clauses)) Nil) object

clause_at : (clauses : List Clause) (object : Tree) (k : ℕ) (d : Clause) → k < length clauses
    → result_from clauses object k ≡ option_or (clause_result (tree_of_clause (get_or clauses k d)) object) (result_from clauses object (k + 1))
unfolding result_of
clause_at clauses object k d h = rw (add-one, drop-cons clauses k d) refl

-- The result of the next clause is that of all clauses where that clause holds.
pub clause_holds : (clauses : List Clause) (object : Tree) (k : ℕ) (d : Clause) (t : Tree) (all : Option Tree) → k < length clauses
    → all ≡ result_from clauses object k → Some t ≡ clause_result (tree_of_clause (get_or clauses k d)) object → Some t ≡ all
clause_holds clauses object k d t all h a e =
    sym (a ∙ clause_at clauses object k d h ∙ ap (λ (x : Option Tree). option_or x (result_from clauses object (k + 1))) (sym e))

-- Where the next clause has no result, the clauses behind it decide.
pub clause_fails : (clauses : List Clause) (object : Tree) (k : ℕ) (d : Clause) (all : Option Tree) → k < length clauses
    → all ≡ result_from clauses object k → None ≡ clause_result (tree_of_clause (get_or clauses k d)) object → all ≡ result_from clauses object (k + 1)
clause_fails clauses object k d all h a e =
    a ∙ clause_at clauses object k d h ∙ ap (λ (x : Option Tree). option_or x (result_from clauses object (k + 1))) (sym e)

-- Where no clause is left there is no result.
pub no_clause : (clauses : List Clause) (object : Tree) (k : ℕ) (all : Option Tree) → length clauses ≤ k
    → all ≡ result_from clauses object k → None ≡ all
unfolding result_of
no_clause clauses object k all h a = sym (a ∙ (rw (drop_all k clauses h) refl))

-- The result of all clauses is that of the first one that holds.
pub ruleset first_results = (clause_holds, clause_fails, no_clause)

-- The clauses are those of the specification.
pub of_source : (clauses : List Clause) (source object : Tree) (r : Option Tree) → list_of (trees_of_clauses clauses) Nil ≡ source
    → r ≡ result_of (list_of (trees_of_clauses clauses) Nil) object → r ≡ result_of source object
of_source clauses source object r e h = h ∙ ap (λ (x : Tree). result_of x object) e
