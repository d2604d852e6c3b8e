-- Terms that are built, unless they are too deep.
use Rattle.std.proofs.Common.{◌≡◌, ◌≤◌, ◌<◌, Bool, true, false, List, [], ◌∷◌, length, Option, Some, None, refl, ap, sym, ◌∙◌, arith, nat_le}
use Rattle.std.proofs.lemmas.Bool.Decides.{nat_tests}
use Rattle.std.specs.Prelude.{if◌then◌else◌, option_and_then, option_map}
use Rattle.ca_term.specs.declared.bounds.TheConstants.{MOST_DEPTH, MOST_ELEMENTS}
use Rattle.ca_term.specs.Tree.{Tree, Tuple, Cons, depth, list_of, row_of}
use Rattle.ca_match.specs.Match.{all_values, cell_of, tuple_of, within}

abbrev where_shallow : Tree → Bool → Option Tree
where_shallow t b = if b then Some t else None

-- A term that is not too deep is what `within` gives.
pub shallow : (t u : Tree) → u ≡ t → (MOST_DEPTH < depth t → ⊥) → Some u ≡ within t
shallow t u e h =
    let l : nat_le (depth t) MOST_DEPTH ≡ true = grind (arith, nat_tests) in
    ap (λ (x : Tree). Some x) e ∙ sym (ap (where_shallow t) l)

-- For a term that is too deep `within` gives none.
pub deep : (t : Tree) → MOST_DEPTH < depth t → None ≡ within t
deep t h =
    let l : nat_le (depth t) MOST_DEPTH ≡ false = grind (arith, nat_tests) in
    sym (ap (where_shallow t) l)

-- ---- tuples

abbrev in_tuple : Option (List Tree) → Option Tree
in_tuple o = option_and_then (λ ts. within (Tuple (row_of ts))) o

-- The tuple of the values is their tuple where it is not too deep.
pub tuple_shallow : (vs : List (Option Tree)) (ts : List Tree) (t : Tree) → Some ts ≡ all_values vs → t ≡ Tuple (row_of ts)
    → (MOST_ELEMENTS < length ts → ⊥) → (length ts ≤ MOST_ELEMENTS → MOST_DEPTH < depth (Tuple (row_of ts)) → ⊥) → Some t ≡ tuple_of vs
tuple_shallow vs ts t e f w d = shallow (Tuple (row_of ts)) t f (d (omega arith)) ∙ ap in_tuple e

-- There is no tuple of the values where it is too deep.
pub tuple_deep : (vs : List (Option Tree)) (ts : List Tree) → Some ts ≡ all_values vs → MOST_DEPTH < depth (Tuple (row_of ts)) → None ≡ tuple_of vs
tuple_deep vs ts e d = deep (Tuple (row_of ts)) d ∙ ap in_tuple e

-- There is no tuple where a value fails.
pub no_tuple : (vs : List (Option Tree)) → None ≡ all_values vs → None ≡ tuple_of vs
no_tuple vs e = ap in_tuple e

-- What is built is the tuple of the values, and none where a value fails or the tuple is too deep.
pub ruleset tuples_built = (tuple_shallow, tuple_deep, no_tuple)

-- ---- lists

-- The list of some values with the value of its tail.
abbrev pub listed_of : Option (List Tree) → Option Tree → Option Tree
listed_of heads tail = option_and_then (λ ts. option_and_then (λ u. within (list_of ts u)) tail) heads

-- One cell is the list of its one head.
pub one_cell : (a b : Option Tree) → cell_of a b ≡ listed_of (all_values (a ∷ [])) b
one_cell None b = refl
one_cell (Some t) b = refl

-- a cell over a tail that is too deep is too deep
cell_by : (t v : Tree) (b : Bool) → b ≡ nat_le (depth v) MOST_DEPTH → option_and_then (λ u. within (Cons t u)) (where_shallow v b) ≡ within (Cons t v)
cell_by t v true e = refl
cell_by t v false e = let l : MOST_DEPTH < depth v = grind (arith, nat_tests) in deep (Cons t v) (omega arith)

-- A cell before a list of values is the list with one value more.
pub more_cells : (a : Option Tree) (heads : Option (List Tree)) (b : Option Tree)
    → cell_of a (listed_of heads b) ≡ listed_of (option_and_then (λ t. option_map (λ ts. t ∷ ts) heads) a) b
more_cells None heads b = refl
more_cells (Some t) None b = refl
more_cells (Some t) (Some ts) None = refl
more_cells (Some t) (Some ts) (Some u) = cell_by t (list_of ts u) (nat_le (depth (list_of ts u)) MOST_DEPTH) refl
