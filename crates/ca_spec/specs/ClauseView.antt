-- The clause that a compiled one was made from.
use Rattle.std.specs.Prelude.{List, map, Option}
use Rattle.ca_term.specs.Tree.{Tree, Tuple, Nil, Cons, Ends, More, list_of}
use Rattle.ca_match.specs.Specification.{Reason, clause_fault}
use Rattle.ca_spec.specs.declared.clause.Clause.{Clause}

-- {Head,Guards,Body}
abbrev pub tree_of_parts : Tree → Tree → Tree → Tree
tree_of_parts head guards body = Tuple (More head (More guards (More body Ends)))

-- the first fault of {Head,Guards,Body}
abbrev pub parts_fault : Tree → Tree → Tree → Option Reason
parts_fault head guards body = clause_fault (tree_of_parts head guards body)

-- the body is a list of one expression
abbrev pub tree_of_clause : Clause → Tree
tree_of_clause clause = tree_of_parts clause.head (list_of clause.guards.items Nil) (Cons clause.body Nil)

abbrev pub trees_of_clauses : List Clause → List Tree
trees_of_clauses clauses = map tree_of_clause clauses
