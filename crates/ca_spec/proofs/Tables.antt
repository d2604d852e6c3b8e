-- Tables of places, and the bindings that they hold.
use Rattle.std.proofs.Common.{◌≡◌, ℕ, zero, suc, ◌≤◌, ◌<◌, ◌+◌, ◌-◌, List, [], ◌∷◌, ◌++◌, length, set, get_or, map, replicate, Option, Some, None, Bor, refl, ap, sym, ◌∙◌, arith}
use Rattle.std.proofs.lemmas.List.{length-set}
use Rattle.ca_term.specs.Tree.{Nil, list_of}
use Rattle.ca_term.specs.Tree.{Tree}
use Rattle.ca_match.specs.Match.{Bindings, all_bound, bind_variable, bound, where_equal}
use Rattle.ca_spec.specs.Bound.{bound_at, table_of}
use Rattle.ca_spec.proofs.BoundInOrder.{all_gathered, none_more, one_more, terms_from}

abbrev Table : Type 0
Table = List (Option (Bor Tree))

get_front : (table : Table) (rest : Bindings) (n : ℕ) (d : Option (Bor Tree)) → n < length table
    → get_or (map bound_at table ++ rest) n None ≡ bound_at (get_or table n d)
get_front [] rest n d h = absurd (omega arith)
get_front (x ∷ xs) rest zero d h = refl
get_front (x ∷ xs) rest (suc n) d h = get_front xs rest n d (omega arith)

-- What is bound to a variable stands at its place.
pub bound_in : (table : List (Option (Bor Tree))) (n : ℕ) (d : Option (Bor Tree)) → n < length table
    → bound (table_of table) n ≡ bound_at (get_or table n d)
bound_in table n d h = get_front table (replicate (100 - length table) None) n d h

set_front : (table : Table) (rest : Bindings) (n : ℕ) (v : Option (Bor Tree)) → n < length table
    → set (map bound_at table ++ rest) n (bound_at v) ≡ map bound_at (set table n v) ++ rest
set_front [] rest n v h = absurd (omega arith)
set_front (x ∷ xs) rest zero v h = refl
set_front (x ∷ xs) rest (suc n) v h = ap (λ (more : Bindings). bound_at x ∷ more) (set_front xs rest n v (omega arith))

set_in : (table : Table) (n : ℕ) (v : Option (Bor Tree)) → n < length table → set (table_of table) n (bound_at v) ≡ table_of (set table n v)
set_in table n v h =
    set_front table (replicate (100 - length table) None) n v h
    ∙ ap (λ (k : ℕ). map bound_at (set table n v) ++ replicate (100 - k) None) (sym (length-set table n v))

-- A variable that isn't bound is bound to the term.
pub variable_new : (table : List (Option (Bor Tree))) (n : ℕ) (d : Option (Bor Tree)) (term : Bor Tree) → n < length table → get_or table n d ≡ None
    → bind_variable (table_of table) n (bound (table_of table) n) term.now ≡ Some (table_of (set table n (Some term)))
variable_new table n d term h e =
    ap (λ (b : Option Tree). bind_variable (table_of table) n b term.now) (bound_in table n d h ∙ ap bound_at e)
    ∙ ap (λ (b : Bindings). Some b) (set_in table n (Some term) h)

-- One that is bound meets an equal term.
pub variable_old : (table : List (Option (Bor Tree))) (n : ℕ) (d : Option (Bor Tree)) (own : Bor Tree) (t : Tree) → n < length table
    → get_or table n d ≡ Some own → bind_variable (table_of table) n (bound (table_of table) n) t ≡ where_equal (table_of table) own.now t
variable_old table n d own t h e =
    ap (λ (b : Option Tree). bind_variable (table_of table) n b t) (bound_in table n d h ∙ ap bound_at e)

get_none : (m k : ℕ) → get_or (replicate {A = Option Tree} m None) k None ≡ None
get_none zero k = refl
get_none (suc m) zero = refl
get_none (suc m) (suc k) = get_none m k

behind_front : (table : Table) (m n : ℕ) → length table ≤ n → get_or (map bound_at table ++ replicate m None) n None ≡ None
behind_front [] m n h = get_none m n
behind_front (x ∷ xs) m zero h = absurd (omega arith)
behind_front (x ∷ xs) m (suc n) h = behind_front xs m n (omega arith)

-- Nothing is bound behind the last place.
pub none_behind : (table : List (Option (Bor Tree))) (n : ℕ) → length table ≤ n → bound (table_of table) n ≡ None
none_behind table n h = behind_front table (100 - length table) n h

-- ---- what is bound

-- The terms that are bound from a place on.
abbrev pub bound_from : List (Option (Bor Tree)) → ℕ → List Tree
bound_from table k = terms_from bound_at table k

-- A place with a term adds that term to what is bound.
pub one_bound : (table : List (Option (Bor Tree))) (k : ℕ) (d : Option (Bor Tree)) (t : Bor Tree) (ts all : List Tree) → k < length table
    → all ≡ ts ++ bound_from table k → get_or table k d ≡ Some t → all ≡ (ts ++ t.now ∷ []) ++ bound_from table (k + 1)
one_bound table k d t ts all h a e = one_more bound_at table k d t.now ts all h a (ap bound_at e)

-- An empty place adds nothing to what is bound.
pub not_bound : (table : List (Option (Bor Tree))) (k : ℕ) (d : Option (Bor Tree)) (ts all : List Tree) → k < length table
    → all ≡ ts ++ bound_from table k → get_or table k d ≡ None → all ≡ ts ++ bound_from table (k + 1)
not_bound table k d ts all h a e = none_more bound_at table k d ts all h a (ap bound_at e)

-- Behind the last place all that is bound was gathered.
pub all_are_bound : (table : List (Option (Bor Tree))) (k : ℕ) (ts : List Tree) → length table ≤ k → bound_from table 0 ≡ ts ++ bound_from table k
    → list_of ts Nil ≡ all_bound (table_of table)
all_are_bound table k ts h a = all_gathered bound_at table k ts h a

-- Going over the places in order gathers what is bound in the order of the numbers.
pub ruleset bound_table = (one_bound, not_bound, all_are_bound)
