-- Tables of parts of a code, and the bindings that they hold.
use Rattle.std.proofs.Common.{◌≡◌, ℕ, zero, suc, ◌≤◌, ◌<◌, ◌+◌, ◌-◌, List, [], ◌∷◌, ◌++◌, length, set, get_or, map, replicate, Option, Some, None, refl, ap, sym, ◌∙◌, arith}
use Rattle.std.proofs.lemmas.List.{length-set}
use Rattle.ca_term.specs.Tree.{Nil, Tree, list_of}
use Rattle.ca_match.specs.Match.{Bindings, all_bound, bind_variable, bound, where_equal}
use Rattle.ca_order.specs.declared.codes.Part.{Part}
use Rattle.ca_order.specs.CodesView.{tree_of}
use Rattle.ca_spec.specs.PartBound.{first, part_at, parts_of}
use Rattle.ca_spec.proofs.BoundInOrder.{all_gathered, none_more, one_more, terms_from}

abbrev Table : Type 0
Table = List (Option Part)

get_front : (table : Table) (rest : Bindings) (n : ℕ) (d : Option Part) → n < length table
    → get_or (map part_at table ++ rest) n None ≡ part_at (get_or table n d)
get_front [] rest n d h = absurd (omega arith)
get_front (x ∷ xs) rest zero d h = refl
get_front (x ∷ xs) rest (suc n) d h = get_front xs rest n d (omega arith)

-- What is bound to a variable stands at its place.
pub bound_in : (table : List (Option Part)) (n : ℕ) (d : Option Part) → n < length table → bound (parts_of table) n ≡ part_at (get_or table n d)
bound_in table n d h = get_front table (replicate (100 - length table) None) n d h

set_front : (table : Table) (rest : Bindings) (n : ℕ) (v : Option Part) → n < length table
    → set (map part_at table ++ rest) n (part_at v) ≡ map part_at (set table n v) ++ rest
set_front [] rest n v h = absurd (omega arith)
set_front (x ∷ xs) rest zero v h = refl
set_front (x ∷ xs) rest (suc n) v h = ap (λ (more : Bindings). part_at x ∷ more) (set_front xs rest n v (omega arith))

set_in : (table : Table) (n : ℕ) (v : Option Part) → n < length table → set (parts_of table) n (part_at v) ≡ parts_of (set table n v)
set_in table n v h =
    set_front table (replicate (100 - length table) None) n v h
    ∙ ap (λ (k : ℕ). map part_at (set table n v) ++ replicate (100 - k) None) (sym (length-set table n v))

first_is : (terms others : List Tree) (part : Part) → terms ≡ tree_of part ∷ others → first terms ≡ tree_of part
first_is terms others part e = ap first e

-- A variable that isn't bound is bound to the first term.
pub variable_new : (table : List (Option Part)) (n : ℕ) (d : Option Part) (terms others : List Tree) (part : Part) → n < length table
    → get_or table n d ≡ None → terms ≡ tree_of part ∷ others
    → bind_variable (parts_of table) n (bound (parts_of table) n) (first terms) ≡ Some (parts_of (set table n (Some part)))
variable_new table n d terms others part h e f =
    ap (λ (t : Tree). bind_variable (parts_of table) n (bound (parts_of table) n) t) (first_is terms others part f)
    ∙ ap (λ (b : Option Tree). bind_variable (parts_of table) n b (tree_of part)) (bound_in table n d h ∙ ap part_at e)
    ∙ ap (λ (b : Bindings). Some b) (set_in table n (Some part) h)

-- One that is bound meets an equal term.
pub variable_old : (table : List (Option Part)) (n : ℕ) (d : Option Part) (own : Part) (terms others : List Tree) (part : Part) → n < length table
    → get_or table n d ≡ Some own → terms ≡ tree_of part ∷ others
    → bind_variable (parts_of table) n (bound (parts_of table) n) (first terms) ≡ where_equal (parts_of table) (tree_of own) (tree_of part)
variable_old table n d own terms others part h e f =
    ap (λ (t : Tree). bind_variable (parts_of table) n (bound (parts_of table) n) t) (first_is terms others part f)
    ∙ ap (λ (b : Option Tree). bind_variable (parts_of table) n b (tree_of part)) (bound_in table n d h ∙ ap part_at e)

get_none : (m k : ℕ) → get_or (replicate {A = Option Tree} m None) k None ≡ None
get_none zero k = refl
get_none (suc m) zero = refl
get_none (suc m) (suc k) = get_none m k

behind_front : (table : Table) (m n : ℕ) → length table ≤ n → get_or (map part_at table ++ replicate m None) n None ≡ None
behind_front [] m n h = get_none m n
behind_front (x ∷ xs) m zero h = absurd (omega arith)
behind_front (x ∷ xs) m (suc n) h = behind_front xs m n (omega arith)

-- Nothing is bound behind the last place.
pub none_behind : (table : List (Option Part)) (n : ℕ) → length table ≤ n → bound (parts_of table) n ≡ None
none_behind table n h = behind_front table (100 - length table) n h

-- ---- what is bound

-- The terms that are bound from a place on.
abbrev pub parts_from : List (Option Part) → ℕ → List Tree
parts_from table k = terms_from part_at table k

-- A place with a part adds that part's term to what is bound.
pub one_part : (table : List (Option Part)) (k : ℕ) (d : Option Part) (part : Part) (ts all : List Tree) → k < length table
    → all ≡ ts ++ parts_from table k → get_or table k d ≡ Some part → all ≡ (ts ++ tree_of part ∷ []) ++ parts_from table (k + 1)
one_part table k d part ts all h a e = one_more part_at table k d (tree_of part) ts all h a (ap part_at e)

-- An empty place adds nothing to what is bound.
pub no_part : (table : List (Option Part)) (k : ℕ) (d : Option Part) (ts all : List Tree) → k < length table
    → all ≡ ts ++ parts_from table k → get_or table k d ≡ None → all ≡ ts ++ parts_from table (k + 1)
no_part table k d ts all h a e = none_more part_at table k d ts all h a (ap part_at e)

-- Behind the last place all that is bound was gathered.
pub all_parts : (table : List (Option Part)) (k : ℕ) (ts : List Tree) → length table ≤ k → parts_from table 0 ≡ ts ++ parts_from table k
    → list_of ts Nil ≡ all_bound (parts_of table)
all_parts table k ts h a = all_gathered part_at table k ts h a

-- Going over the places in order gathers what is bound in the order of the numbers.
pub ruleset part_table = (one_part, no_part, all_parts)
