-- Results of clauses that are passed over one after the other.
use Rattle.std.proofs.Common.{◌≡◌, Bool, true, false, List, [], ◌∷◌, length, Option, Some, None, Result, refl, ap, sym, ◌∙◌, subst, arith, inl, inr}
use Rattle.std.specs.Prelude.{OnErr, is_some}
use Rattle.std.specs.Option.{option_or}
use Rattle.ca_term.specs.Tree.{Tree, Nil, list_of}
use Rattle.ca_match.specs.Match.{clause_result, result_of}
use Rattle.ca_spec.specs.ClauseView.{tree_of_clause, trees_of_clauses}
use Rattle.ca_spec.specs.Reached.{MayFit, SomeMayFit}
use Rattle.ca_spec.specs.declared.clause.Clause.{Clause}
use Rattle.ca_spec.proofs.Reaching.{on_err}

-- The result that clauses give.
abbrev pub result_by : List Clause → Tree → Option Tree
result_by clauses object = result_of (list_of (trees_of_clauses clauses) Nil) object

-- Some of them may fit.
abbrev pub MayFitBy : List Clause → Tree → Type 0
MayFitBy clauses object = SomeMayFit (list_of (trees_of_clauses clauses) Nil) object

-- What is left of the clauses decides.
pub record IsLeft (clauses left : List Clause) (object : Tree) : Type 0 where
  pub same : result_by clauses object ≡ result_by left object
  pub may_fit : MayFitBy left object → MayFitBy clauses object

-- At first all are left.
pub left_all : (clauses : List Clause) (object : Tree) → IsLeft clauses clauses object
left_all clauses object = record { same = refl; may_fit = λ m. m }

first : (clause : Clause) (others : List Clause) (object : Tree)
    → result_by (clause ∷ others) object ≡ option_or (clause_result (tree_of_clause clause) object) (result_by others object)
unfolding result_of
first clause others object = refl

-- Where the first one that is left has no result, those behind it are left.
pub left_behind : (clauses left others : List Clause) (clause : Clause) (object : Tree) → IsLeft clauses left object → left ≡ clause ∷ others
    → clause_result (tree_of_clause clause) object ≡ None → IsLeft clauses others object
left_behind clauses left others clause object l e n = record {
  same = l.same ∙ ap (λ (x : List Clause). result_by x object) e ∙ first clause others object
      ∙ ap (λ (x : Option Tree). option_or x (result_by others object)) n;
  may_fit = λ m. l.may_fit (subst (λ (x : List Clause). MayFitBy x object) (sym e) (inr m));
}

-- Where none is left there is no result.
pub left_none : (clauses left : List Clause) (object : Tree) → IsLeft clauses left object → length left ≡ 0 → None ≡ result_by clauses object
unfolding result_of
left_none clauses [] object l e = sym l.same
left_none clauses (c ∷ cs) object l e = absurd (omega arith)

-- What those that are left give is the result.
pub left_found : (clauses left others : List Clause) (clause : Clause) (object : Tree) (r : Option Tree) → IsLeft clauses left object
    → left ≡ clause ∷ others → r ≡ result_by (clause ∷ others) object → r ≡ result_by clauses object
left_found clauses left others clause object r l e f = f ∙ ap (λ (x : List Clause). result_by x object) (sym e) ∙ sym l.same

pub left_lack : (clauses left others : List Clause) (clause : Clause) (object : Tree) → IsLeft clauses left object
    → left ≡ clause ∷ others → MayFitBy (clause ∷ others) object → MayFitBy clauses object
left_lack clauses left others clause object l e m = l.may_fit (subst (λ (x : List Clause). MayFitBy x object) (sym e) m)

-- So it is where what they give is told of all at once.
pub left_same : (clauses left : List Clause) (object : Tree) (r : Option Tree) → IsLeft clauses left object
    → r ≡ result_by left object → r ≡ result_by clauses object
left_same clauses left object r l e = e ∙ sym l.same

-- The first clause has the result, or those behind it.
pub first_holds : (clause : Clause) (others : List Clause) (object v : Tree) → Some v ≡ clause_result (tree_of_clause clause) object
    → Some v ≡ result_by (clause ∷ others) object
first_holds clause others object v e =
    ap (λ (x : Option Tree). option_or x (result_by others object)) e ∙ sym (first clause others object)

pub first_fails : (clause : Clause) (others : List Clause) (object : Tree) (r : Option Tree) → None ≡ clause_result (tree_of_clause clause) object
    → r ≡ result_by others object → r ≡ result_by (clause ∷ others) object
first_fails clause others object r n e =
    e ∙ ap (λ (x : Option Tree). option_or x (result_by others object)) n ∙ sym (first clause others object)

-- What the only clause gives is the result.
pub only_told : (clauses others : List Clause) (clause : Clause) (source object : Tree) (r : Option Tree) → list_of (trees_of_clauses clauses) Nil ≡ source
    → clauses ≡ clause ∷ others → length others ≡ 0 → r ≡ clause_result (tree_of_clause clause) object → r ≡ result_of source object
unfolding result_of
only_told clauses others clause source object r s f l e =
    e ∙ sym (or_none (clause_result (tree_of_clause clause) object)) ∙ by others l ∙ ap (λ (x : List Clause). result_by x object) (sym f)
    ∙ ap (λ (x : Tree). result_of x object) s
  where
    or_none : (v : Option Tree) → option_or v None ≡ v
    or_none None = refl
    or_none (Some v) = refl

    by : (more : List Clause) → length more ≡ 0 → option_or (clause_result (tree_of_clause clause) object) None ≡ result_by (clause ∷ more) object
    by [] l = refl
    by (c ∷ cs) l = absurd (omega arith)

-- ---- whether one holds

-- Where the first one that is left holds, there is a result.
pub left_holds : (clauses left others : List Clause) (clause : Clause) (object : Tree) (h : Bool) → IsLeft clauses left object → left ≡ clause ∷ others
    → h ≡ is_some (clause_result (tree_of_clause clause) object) → h ≡ true → true ≡ is_some (result_by clauses object)
left_holds clauses left others clause object h l e k t =
    by (clause_result (tree_of_clause clause) object) (sym t ∙ k)
    ∙ ap is_some (sym (l.same ∙ ap (λ (x : List Clause). result_by x object) e ∙ first clause others object))
  where
    by : (r : Option Tree) → true ≡ is_some r → true ≡ is_some (option_or r (result_by others object))
    by None n = cc
    by (Some v) n = refl

-- Where it doesn't, those behind it are left.
pub left_fails : (clauses left others : List Clause) (clause : Clause) (object : Tree) (h : Bool) → IsLeft clauses left object → left ≡ clause ∷ others
    → h ≡ is_some (clause_result (tree_of_clause clause) object) → h ≡ false → IsLeft clauses others object
left_fails clauses left others clause object h l e k f =
    left_behind clauses left others clause object l e (none (clause_result (tree_of_clause clause) object) (sym f ∙ k))
  where
    none : (r : Option Tree) → false ≡ is_some r → r ≡ None
    none None n = refl
    none (Some v) n = cc

-- Where none is left there is none.
pub left_no_more : (clauses left : List Clause) (object : Tree) → IsLeft clauses left object → length left ≡ 0 → false ≡ is_some (result_by clauses object)
left_no_more clauses left object l e = ap is_some (left_none clauses left object l e)

-- Where memory lacked for the first one that is left, its head may fit.
pub left_lacks : {T E : Type 0} (r : Result T E) (clauses left others : List Clause) (clause : Clause) (object : Tree) → IsLeft clauses left object
    → left ≡ clause ∷ others → MayFit clause.head object → OnErr r (MayFitBy clauses object)
left_lacks r clauses left others clause object l e m = on_err r _ (left_lack clauses left others clause object l e (inl m))

-- Clauses that are passed over.
pub ruleset left_clauses = (left_all, left_behind, left_none, left_same)

-- The first clause and those behind it.
pub ruleset first_clause = (first_holds, first_fails)

-- Clauses of which it is asked whether one holds.
pub ruleset holding_clauses = (left_all, left_holds, left_fails, left_no_more, left_lacks)
