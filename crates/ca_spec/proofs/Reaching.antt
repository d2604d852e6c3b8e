-- Where memory may be taken.
use Rattle.std.proofs.Common.{◌≡◌, ◌≢◌, ◌<◌, ℕ, zero, suc, Bool, true, false, List, [], ◌∷◌, ◌++◌, length, get_or, map, Option, Some, None, Result, Ok, Err, ap, sym, ◌∙◌, subst, arith, inl, inr}
use Rattle.std.specs.Prelude.{IsSome, OnErr, option_and_then}
use Rattle.ca_term.specs.Object.{fits}
use Rattle.ca_term.specs.Tree.{Tree, Integer, Atom, Tuple, Nil, Cons, Binary, list_of, row_of}
use Rattle.ca_match.specs.Match.{Bindings, bind, clause_result, fitted, no_bindings}
use Rattle.ca_spec.specs.ClauseView.{tree_of_clause}
use Rattle.ca_spec.specs.PartBound.{IsAsked}
use Rattle.ca_spec.specs.PatternView.{fits_equal}
use Rattle.ca_spec.specs.Reached.{AreShort, IsShortRow, HeadMayFit, MayFit, SomeMayFit}
use Rattle.ca_spec.specs.declared.clause.Clause.{Clause}

-- A part with no parts is short where its code is.
pub short_leaf : (t : Tree) → fits_equal t ≡ true → AreShort t → fits t ≡ true
short_leaf (Integer n) e s = s
short_leaf (Atom text) e s = s
short_leaf (Tuple row) e s = cc
short_leaf Nil e s = s
short_leaf (Cons head tail) e s = cc
short_leaf (Binary bytes) e s = s

-- The elements of a short row are short, and the heads and the tail of a short list.
pub short_item : (ts : List Tree) (k : ℕ) (d : Tree) → k < length ts → IsShortRow (row_of ts) → AreShort (get_or ts k d)
short_item [] k d h s = absurd (omega arith)
short_item (t ∷ ts) zero d h s = s.0
short_item (t ∷ ts) (suc k) d h s = short_item ts k d (omega arith) s.1

pub short_head : (ts : List Tree) (tail : Tree) (k : ℕ) (d : Tree) → k < length ts → AreShort (list_of ts tail) → AreShort (get_or ts k d)
short_head [] tail k d h s = absurd (omega arith)
short_head (t ∷ ts) tail zero d h s = s.0
short_head (t ∷ ts) tail (suc k) d h s = short_head ts tail k d (omega arith) s.1

pub short_tail : (ts : List Tree) (tail : Tree) → AreShort (list_of ts tail) → AreShort tail
short_tail [] tail s = s
short_tail (t ∷ ts) tail s = short_tail ts tail s.1

short_front : (ts us : List Tree) → IsShortRow (row_of (ts ++ us)) → IsShortRow (row_of ts)
short_front [] us s = tt
short_front (t ∷ ts) us s = (s.0, short_front ts us s.1)

-- The parts that are asked for are short where all are.
pub short_asked : (parts asked : List Tree) → IsAsked parts asked → IsShortRow (row_of parts) → IsShortRow (row_of asked)
short_asked parts asked a s = short_front asked _ (subst (λ (x : List Tree). IsShortRow (row_of x)) a.parts_are s)

-- ---- clauses

-- A head that fits may fit, and so does one of which that isn't told.
pub fits_some : (head object : Tree) (b c : Bindings) → b ≡ no_bindings → bind head object b ≡ Some c → MayFit head object
fits_some head object b c e f = λ s n. let no : Some c ≡ None = sym f ∙ ap (bind head object) e ∙ n in cc

pub not_told : (head object : Tree) (r : Option Bool) → (AreShort head → IsSome r) → None ≡ r → MayFit head object
not_told head object None h e = λ s n. let no : false ≡ true = h s in cc
not_told head object (Some b) h e = cc

then_some : (f : Bindings → Option Tree) (o : Option Bindings) (v : Tree) → Some v ≡ option_and_then f o → o ≢ None
then_some f None v e n = cc
then_some f (Some b) v e n = cc

-- The head of a clause that has a result fits.
pub result_fits : (clause : Clause) (object v : Tree) → Some v ≡ clause_result (tree_of_clause clause) object → HeadMayFit (tree_of_clause clause) object
result_fits clause object v e = λ s. then_some _ (fitted clause.head object) v e

-- The clause at a place is one of them.
pub some_clause : (clauses : List Clause) (object : Tree) (k : ℕ) (d : Clause) → k < length clauses
    → HeadMayFit (tree_of_clause (get_or clauses k d)) object → SomeMayFit (list_of (map tree_of_clause clauses) Nil) object
some_clause [] object k d h m = absurd (omega arith)
some_clause (c ∷ cs) object zero d h m = inl m
some_clause (c ∷ cs) object (suc k) d h m = inr (some_clause cs object k d (omega arith) m)

-- What holds, holds where memory lacked.
pub on_err : {T E : Type 0} (r : Result T E) (P : Type 0) → P → OnErr r P
on_err (Ok x) P p = tt
on_err (Err e) P p = p

-- What is known of heads whose parts are short.
pub ruleset short_parts = (short_leaf, short_item, short_head, short_tail, short_asked)

-- Heads that may fit.
pub ruleset reached = (fits_some, not_told)
