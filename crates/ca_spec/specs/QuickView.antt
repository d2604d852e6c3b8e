-- What is known of a result by parts of an object's code.
use Rattle.std.specs.Prelude.{◌≡◌, Bool, true, false, List, Option, None, Some}
use Rattle.ca_term.specs.Tree.{Tree}
use Rattle.ca_match.specs.Match.{clause_result, value}
use Rattle.ca_order.specs.CodesView.{tree_of}
use Rattle.ca_order.specs.declared.codes.Part.{Part}
use Rattle.ca_spec.specs.ClauseView.{tree_of_clause}
use Rattle.ca_spec.specs.PartBound.{scene_in}
use Rattle.ca_spec.specs.Reached.{MayFit}
use Rattle.ca_spec.specs.declared.clause.Clause.{Clause}
use Rattle.ca_spec.specs.declared.quick.Quick.{Quick}
use Rattle.ca_spec.specs.declared.quick.Quick.TheVariants as quick

abbrev pub IsTold : Quick → Option Tree → Type 0
IsTold quick.None result = result ≡ None
IsTold (quick.Part part) result = result ≡ Some (tree_of part)
IsTold (quick.Term term) result = result ≡ Some term.now
IsTold quick.Unknown result = Unit {0}

-- Whether a clause's head fits and its guards are true, where that is known: then its result is its body's value, with what is bound in a table.
abbrev pub IsKnown : Option Bool → Clause → Part → List (Option Part) → Type 0
IsKnown None clause object table = MayFit clause.head (tree_of object)
IsKnown (Some false) clause object table = clause_result (tree_of_clause clause) (tree_of object) ≡ None
IsKnown (Some true) clause object table =
    (clause_result (tree_of_clause clause) (tree_of object) ≡ value (scene_in object table) clause.body) × MayFit clause.head (tree_of object)

-- A result is told by its code, or that there is none.
abbrev pub IsByCode : Quick → Type 0
IsByCode quick.None = Unit {0}
IsByCode (quick.Part part) = Unit {0}
IsByCode (quick.Term term) = ⊥
IsByCode quick.Unknown = ⊥
