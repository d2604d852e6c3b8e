-- Results of clauses by parts of an object's code.
use Rattle.std.proofs.Common.{◌≡◌, Bool, true, false, List, Option, Some, None, refl, sym, subst}
use Rattle.std.specs.Prelude.{IfSome}
use Rattle.ca_term.specs.Tree.{Tree, Tuple, Nil, Cons, Ends, More, list_of}
use Rattle.ca_match.specs.Match.{Bindings, bind, clause_result, guarded, no_bindings, pass}
use Rattle.ca_order.specs.CodesView.{tree_of}
use Rattle.ca_order.specs.declared.codes.Part.{Part}
use Rattle.ca_spec.specs.PartBound.{parts_of, scene_in}
use Rattle.ca_spec.specs.QuickView.{IsKnown, IsTold}
use Rattle.ca_spec.specs.Reached.{IsReached, MayFit}
use Rattle.ca_spec.specs.declared.clause.Clause.{Clause}
use Rattle.ca_spec.specs.declared.quick.Quick.{Quick}
use Rattle.ca_spec.specs.declared.quick.Quick.TheVariants as quick
use Rattle.ca_spec.proofs.Reaching.{fits_some, not_told}
use Rattle.ca_spec.proofs.ClauseResults.{fits as fits_of, no_fit as no_fit_of, no_pass as no_pass_of, holds as holds_of}

-- A clause whose head does not fit has no result.
pub no_fit : (head guards body object : Tree) (b c : Bindings) → b ≡ no_bindings → bind head object b ≡ None
    → clause_result (Tuple (More head (More guards (More (Cons body Nil) Ends)))) object ≡ None
no_fit head guards body object b c e f = sym (no_fit_of head guards body object b c false e f refl)

-- A clause with a guard that is not true has no result.
pub no_pass : (head guards body object : Tree) (b c : Bindings) (p : Bool) → b ≡ no_bindings → bind head object b ≡ Some c
    → p ≡ pass (record { object = object; bindings = c }) guards → p ≡ false
    → clause_result (Tuple (More head (More guards (More (Cons body Nil) Ends)))) object ≡ None
no_pass head guards body object b c p e f g q = sym (no_pass_of head guards body object b c true p e f refl g q)

-- A clause whose head fits is known where its guards are.
pub fits_known : (clause : Clause) (object : Part) (b : Bindings) (table : List (Option Part)) (r : Option Bool) → b ≡ no_bindings
    → bind clause.head (tree_of object) b ≡ Some (parts_of table)
    → IfSome r (λ p. p ≡ pass (scene_in object table) (list_of clause.guards.items Nil)) → IsKnown r clause object table
fits_known clause object b table None e f g = fits_some clause.head (tree_of object) b (parts_of table) e f
fits_known clause object b table (Some false) e f g =
    no_pass clause.head (list_of clause.guards.items Nil) clause.body (tree_of object) b (parts_of table) false e f g refl
fits_known clause object b table (Some true) e f g = (
  sym (holds_of clause.head (list_of clause.guards.items Nil) clause.body (tree_of object) b (parts_of table) true true e f refl g refl),
  fits_some clause.head (tree_of object) b (parts_of table) e f,
)

-- What is told of the body's value is told of the result, where the head fits and the guards are true.
pub value_told : (q : Quick) (result v : Option Tree) → result ≡ v → IsTold q v → IsTold q result
value_told q result v e t = subst (λ (x : Option Tree). IsTold q x) (sym e) t

pub may_reach : (q : Quick) (head object : Tree) → MayFit head object → IsReached q head object
may_reach quick.None head object m = tt
may_reach (quick.Part part) head object m = m
may_reach (quick.Term term) head object m = m
may_reach quick.Unknown head object m = m

-- A clause whose head does not fit gives nothing.
pub gives_none : (head guards body object : Tree) (b c : Bindings) → b ≡ no_bindings → bind head object b ≡ None
    → None ≡ clause_result (Tuple (More head (More guards (More (Cons body Nil) Ends)))) object
gives_none head guards body object b c e f = no_fit_of head guards body object b c false e f refl

-- A clause whose head fits gives what its body comes to.
pub gives : (head guards body object : Tree) (b c : Bindings) (v : Option Tree) → b ≡ no_bindings → bind head object b ≡ Some c
    → v ≡ guarded (record { object = object; bindings = c }) guards (Cons body Nil)
    → v ≡ clause_result (Tuple (More head (More guards (More (Cons body Nil) Ends)))) object
gives head guards body object b c v e f g = fits_of head guards body object b c true v e f refl g

-- Whether a clause's head fits and its guards hold.
pub ruleset known_clauses = (no_fit, fits_known, not_told)

-- What is told of a clause's result by that.
pub ruleset told_clauses = (value_told, may_reach)

-- The result of a clause, by whether its head fits.
pub ruleset part_results = (gives_none, gives)
