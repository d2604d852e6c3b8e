-- Clauses and lists of clauses.
use Rattle.std.proofs.Common.{◌≡◌, ◌≤◌, ◌<◌, List, [], ◌∷◌, ◌++◌, length, Some, refl, ap, arith}
use Rattle.ca_term.specs.Tree.{Tree, Tuple, Cons, list_of, row_of}
use Rattle.ca_match.specs.Specification.{NotAClause, clause_fault}
use Rattle.ca_spec.specs.declared.clause.Clause.{Clause}
use Rattle.ca_spec.specs.ClauseView.{tree_of_clause, trees_of_clauses}

-- One more clause at the end of the clauses may stand at the front of what is left.
pub clauses_push : (cs : List Clause) (c : Clause) (t : Tree)
    → list_of (trees_of_clauses (cs ++ c ∷ [])) t ≡ list_of (trees_of_clauses cs) (Cons (tree_of_clause c) t)
clauses_push [] c t = refl
clauses_push (d ∷ cs) c t = ap (Cons (tree_of_clause d)) (clauses_push cs c t)

-- A tuple of fewer than three elements is no clause.
pub too_few : (items : List Tree) → length items < 3 → clause_fault (Tuple (row_of items)) ≡ Some NotAClause
too_few [] h = refl
too_few (t ∷ []) h = refl
too_few (t ∷ u ∷ []) h = refl
too_few (t ∷ u ∷ v ∷ ts) h = absurd (omega arith)

-- A tuple of more than three elements is no clause.
pub too_many : (items : List Tree) → 4 ≤ length items → clause_fault (Tuple (row_of items)) ≡ Some NotAClause
too_many [] h = absurd (omega arith)
too_many (t ∷ []) h = absurd (omega arith)
too_many (t ∷ u ∷ []) h = absurd (omega arith)
too_many (t ∷ u ∷ v ∷ []) h = absurd (omega arith)
too_many (t ∷ u ∷ v ∷ a ∷ ts) h = refl
