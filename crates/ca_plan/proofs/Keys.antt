-- Objects with a result have the key that all clauses fix.
use Rattle.std.proofs.Common.{◌≡◌, ◌≢◌, ℕ, ◌≤◌, ◌-◌, Bool, true, false, Option, Some, None, refl, ap, sym, ◌∙◌, arith, nat_le, get_or, subst}
use Rattle.std.proofs.lemmas.Bool.Decides.{nat_tests}
use Rattle.std.specs.Prelude.{if◌then◌else◌, option_and_then, ◌&&◌}
use Rattle.std.specs.Option.{option_or}
use Rattle.ca_term.specs.Tree.{Tree, Row, Tuple, Nil, Cons, Ends, More, elements, size}
use Rattle.ca_term.specs.Object.{key_of}
use Rattle.ca_term.specs.Order.{term_cmp}
use Rattle.ca_match.specs.Match.{Bindings, bind, bind_row, clause_result, fitted, guarded, no_bindings, result_of}
use Rattle.ca_plan.specs.Plan.{all_fix, clause_key, fixes, head_key, is_fixed, is_key, shared_key}
use Rattle.ca_plan.proofs.Fits.{both_first, both_second, element_fits, same_by}

some_is : (t u : Tree) → Some t ≡ Some u → t ≡ u
some_is t u e = cc

row_fits : (keypos : ℕ) (row us : Row) (key : Tree) (c : Bindings) (l f : Bool) → 1 ≤ keypos
    → nat_le keypos (size row) ≡ l → is_fixed (get_or (elements row) (keypos - 1) Nil) ≡ f
    → (if l && f then Some (get_or (elements row) (keypos - 1) Nil) else None) ≡ Some key
    → bind_row row us no_bindings ≡ Some c → get_or (elements us) (keypos - 1) Nil ≡ key
row_fits keypos row us key c true true n l f e h =
    let s : keypos ≤ size row = grind (arith, nat_tests) in
    sym (element_fits row us (keypos - 1) no_bindings c (omega arith) f h) ∙ some_is (get_or (elements row) (keypos - 1) Nil) key e
row_fits keypos row us key c true false n l f e h = cc
row_fits keypos row us key c false f n l g e h = cc

-- A head that fixes a key fits only objects that have it.
pub head_fits : (keypos : ℕ) (head object key : Tree) (c : Bindings) → 1 ≤ keypos → head_key keypos head ≡ Some key
    → bind head object no_bindings ≡ Some c → key_of keypos object ≡ key
unfolding bind
head_fits keypos (Tuple row) (Tuple us) key c n e h =
    row_fits keypos row us key c (nat_le keypos (size row)) (is_fixed (get_or (elements row) (keypos - 1) Nil)) n refl refl e h
head_fits keypos (Tuple row) object key c n e h = cc
head_fits keypos head object key c n e h = cc

fitted_by : (o : Option Bindings) (f : Bindings → Option Tree) (keypos : ℕ) (head object key : Tree) → 1 ≤ keypos → head_key keypos head ≡ Some key
    → bind head object no_bindings ≡ o → option_and_then f o ≢ None → key_of keypos object ≡ key
fitted_by None f keypos head object key n e h r = absurd (r refl)
fitted_by (Some c) f keypos head object key n e h r = head_fits keypos head object key c n e h

-- A clause that fixes a key gives only objects that have it a result.
pub clause_covers : (keypos : ℕ) (clause object key : Tree) → 1 ≤ keypos → clause_key keypos clause ≡ Some key
    → clause_result clause object ≢ None → key_of keypos object ≡ key
clause_covers keypos (Tuple (More head (More guards (More body Ends)))) object key n e r =
    fitted_by (fitted head object) (λ bindings. guarded (record { object = object; bindings = bindings }) guards body) keypos head object key n e refl r
clause_covers keypos clause object key n e r = absurd (r refl)

key_by : (o : Option Tree) (key : Tree) → is_key key o ≡ true → o ≡ Some key
key_by None key e = cc
key_by (Some own) key e = ap (λ (x : Tree). Some x) (same_by (term_cmp own key) own key refl e)

first_or : (o p : Option Tree) (P : Type 0) → option_or o p ≢ None → (o ≢ None → P) → (p ≢ None → P) → P
first_or None p P r f g = g r
first_or (Some t) p P r f g = f r

-- Clauses that all fix a key give only objects that have it a result.
pub all_cover : (keypos : ℕ) (key clauses object : Tree) → 1 ≤ keypos → all_fix keypos key clauses ≡ true
    → result_of clauses object ≢ None → key_of keypos object ≡ key
unfolding result_of
all_cover keypos key (Cons clause clauses) object n f r =
    first_or (clause_result clause object) (result_of clauses object) (key_of keypos object ≡ key) r
    (clause_covers keypos clause object key n
    (key_by (clause_key keypos clause) key (both_first (fixes keypos key clause) (all_fix keypos key clauses) f)))
    (all_cover keypos key clauses object n (both_second (fixes keypos key clause) (all_fix keypos key clauses) f))
all_cover keypos key clauses object n f r = absurd (r refl)

shared_by : (o : Option Tree) (keypos : ℕ) (key clause clauses object : Tree) → 1 ≤ keypos
    → clause_key keypos clause ≡ o → option_and_then (λ k. if all_fix keypos k clauses then Some k else None) o ≡ Some key
    → result_of (Cons clause clauses) object ≢ None → key_of keypos object ≡ key
unfolding result_of
shared_by None keypos key clause clauses object n e s r = cc
shared_by (Some own) keypos key clause clauses object n e s r = by (all_fix keypos own clauses) refl s
  where
    by : (b : Bool) → all_fix keypos own clauses ≡ b → (if b then Some own else None) ≡ Some key → key_of keypos object ≡ key
    by true f g =
        first_or (clause_result clause object) (result_of clauses object) (key_of keypos object ≡ key) r
        (clause_covers keypos clause object key n (e ∙ g))
        (all_cover keypos key clauses object n (subst (λ (x : Tree). all_fix keypos x clauses ≡ true) (some_is own key g) f))
    by false f g = cc

-- A key that all clauses share is that of every object with a result.
pub shared_covers : (keypos : ℕ) (key specification object : Tree) → 1 ≤ keypos → shared_key keypos specification ≡ Some key
    → result_of specification object ≢ None → key_of keypos object ≡ key
shared_covers keypos key (Cons clause clauses) object n s r = shared_by (clause_key keypos clause) keypos key clause clauses object n refl s r
shared_covers keypos key specification object n s r = cc

-- The plan's key is that of every object with a result.
pub key_covers : (keypos : ℕ) (own key specification : Tree) → 1 ≤ keypos → Some own ≡ shared_key keypos specification → key ≡ own
    → (object : Tree) → result_of specification object ≢ None → key_of keypos object ≡ key
key_covers keypos own key specification n s e object r = shared_covers keypos own specification object n (sym s) r ∙ sym e
