-- Matching by a walk of the term.
use Rattle.std.proofs.Common.{◌≡◌, ℕ, ◌≤◌, ◌<◌, ◌+◌, ◌-◌, Bool, true, false, List, [], ◌∷◌, ◌++◌, length, set, get_or, take, drop, Option, Some, None, Bor, add-one, drop-cons, append_assoc, append-nil, refl, ap, sym, ◌∙◌, arith, nat_le}
use Rattle.std.proofs.lemmas.Bool.Decides.{nat_tests}
use Rattle.std.proofs.lemmas.List.{drop_all, get_or-map, map-set, take_all}
use Rattle.std.specs.Prelude.{filter_map, if◌then◌else◌, option_and_then}
use Rattle.ca_term.specs.declared.bounds.TheConstants.{MOST_DEPTH, MOST_ELEMENTS}
use Rattle.ca_term.specs.Tree.{Tree, Tuple, Nil, Cons, depth, list_of, row_of}
use Rattle.ca_match.specs.Match.{Bindings, Scene, all_bound, all_values, bind_variable, bound, call_value, cell_of, clause_result, constant, form_value, tuple_of, tuple_value, value, values, within}
use Rattle.ca_match.specs.Operators.{Operator, One, Two, Short, applied}
use Rattle.ca_match.specs.MatcherView.{bindings_of, bound_at, cells_of}

-- A variable that isn't bound is bound to the term.
pub variable_new : (table : List (Option (Bor Tree))) (n : ℕ) (d : Option (Bor Tree)) (term : Bor Tree) → n < length table → get_or table n d ≡ None
    → bind_variable (bindings_of table) n (bound (bindings_of table) n) term.now ≡ Some (bindings_of (set table n (Some term)))
variable_new table n d term h e =
    ap (λ (b : Option Tree). bind_variable (bindings_of table) n b term.now) (get_or-map bound_at table n d None h ∙ ap bound_at e)
    ∙ ap (λ (b : Bindings). Some b) (sym (map-set bound_at table n (Some term)))

-- the terms that are bound from a place on
abbrev pub bound_from : List (Option (Bor Tree)) → ℕ → List Tree
bound_from table k = filter_map (λ b. b) (bindings_of (drop k table))

bound_head : (table : List (Option (Bor Tree))) (k : ℕ) (d : Option (Bor Tree)) → k < length table
    → bound_from table k ≡ filter_map (λ b. b) (bound_at (get_or table k d) ∷ bindings_of (drop (k + 1) table))
bound_head table k d h = rw (add-one, drop-cons table k d) refl

pub one_bound : (table : List (Option (Bor Tree))) (k : ℕ) (d : Option (Bor Tree)) (t : Bor Tree) (ts all : List Tree) → k < length table
    → all ≡ ts ++ bound_from table k → get_or table k d ≡ Some t → all ≡ (ts ++ t.now ∷ []) ++ bound_from table (k + 1)
one_bound table k d t ts all h a e =
    a ∙ ap (λ (x : List Tree). ts ++ x) (bound_head table k d h
    ∙ ap (λ (x : Option (Bor Tree)). filter_map (λ b. b) (bound_at x ∷ bindings_of (drop (k + 1) table))) e)
    ∙ sym (append_assoc ts (t.now ∷ []) (bound_from table (k + 1)))

pub not_bound : (table : List (Option (Bor Tree))) (k : ℕ) (d : Option (Bor Tree)) (ts all : List Tree) → k < length table
    → all ≡ ts ++ bound_from table k → get_or table k d ≡ None → all ≡ ts ++ bound_from table (k + 1)
not_bound table k d ts all h a e =
    a ∙ ap (λ (x : List Tree). ts ++ x) (bound_head table k d h
    ∙ ap (λ (x : Option (Bor Tree)). filter_map (λ b. b) (bound_at x ∷ bindings_of (drop (k + 1) table))) e)

pub all_are_bound : (table : List (Option (Bor Tree))) (k : ℕ) (ts : List Tree) → length table ≤ k → bound_from table 0 ≡ ts ++ bound_from table k
    → list_of ts Nil ≡ all_bound (bindings_of table)
all_are_bound table k ts h a =
    let behind : bound_from table k ≡ [] = rw (drop_all k table h) refl in
    ap (λ (x : List Tree). list_of x Nil) (sym (a ∙ ap (λ (x : List Tree). ts ++ x) behind ∙ append-nil ts))

pub ruleset bound_table = (one_bound, not_bound, all_are_bound)

abbrev where_shallow : Tree → Bool → Option Tree
where_shallow t b = if b then Some t else None

pub shallow : (t : Tree) → (MOST_DEPTH < depth t → ⊥) → within t ≡ Some t
shallow t h =
    let l : nat_le (depth t) MOST_DEPTH ≡ true = grind (arith, nat_tests) in
    ap (where_shallow t) l

pub deep : (t : Tree) → MOST_DEPTH < depth t → within t ≡ None
deep t h =
    let l : nat_le (depth t) MOST_DEPTH ≡ false = grind (arith, nat_tests) in
    ap (where_shallow t) l

-- One more head at the end of the heads stands in a cell of its own.
pub cells_push : (hs : List Tree) (h : Tree) (v : Option Tree) → cells_of (hs ++ h ∷ []) v ≡ cells_of hs (cell_of (Some h) v)
cells_push [] h v = refl
cells_push (g ∷ hs) h v = ap (cell_of (Some g)) (cells_push hs h v)

-- Where the tail fails, the list does.
pub cells_none : (hs : List Tree) → cells_of hs None ≡ None
cells_none [] = refl
cells_none (h ∷ hs) = ap (cell_of (Some h)) (cells_none hs)

pub cells_pop : (hs gs : List Tree) (h t : Tree) → hs ≡ gs ++ h ∷ [] → (MOST_DEPTH < depth (Cons h t) → ⊥)
    → cells_of gs (Some (Cons h t)) ≡ cells_of hs (Some t)
cells_pop hs gs h t e d =
    sym (ap (λ (x : List Tree). cells_of x (Some t)) e ∙ cells_push gs h (Some t) ∙ ap (cells_of gs) (shallow (Cons h t) d))

pub cells_deep : (hs gs : List Tree) (h t : Tree) → hs ≡ gs ++ h ∷ [] → MOST_DEPTH < depth (Cons h t) → None ≡ cells_of hs (Some t)
cells_deep hs gs h t e d =
    sym (ap (λ (x : List Tree). cells_of x (Some t)) e ∙ cells_push gs h (Some t) ∙ ap (cells_of gs) (deep (Cons h t) d) ∙ cells_none gs)

pub too_few : (items : List Tree) (object : Tree) → length items < 3 → None ≡ clause_result (Tuple (row_of items)) object
too_few [] o h = refl
too_few (t ∷ []) o h = refl
too_few (t ∷ u ∷ []) o h = refl
too_few (t ∷ u ∷ v ∷ ts) o h = absurd (omega arith)

pub too_many : (items : List Tree) (object : Tree) → 4 ≤ length items → None ≡ clause_result (Tuple (row_of items)) object
too_many [] o h = absurd (omega arith)
too_many (t ∷ []) o h = absurd (omega arith)
too_many (t ∷ u ∷ []) o h = absurd (omega arith)
too_many (t ∷ u ∷ v ∷ []) o h = absurd (omega arith)
too_many (t ∷ u ∷ v ∷ a ∷ ts) o h = refl

built_shallow : (t u : Tree) → u ≡ t → (MOST_DEPTH < depth t → ⊥) → Some u ≡ within t
built_shallow t u e h = ap (λ (x : Tree). Some x) e ∙ sym (shallow t h)

abbrev in_tuple : Option (List Tree) → Option Tree
in_tuple o = option_and_then (λ ts. within (Tuple (row_of ts))) o

pub tuple_shallow : (vs : List (Option Tree)) (ts : List Tree) (t : Tree) → Some ts ≡ all_values vs → t ≡ Tuple (row_of ts)
    → (MOST_ELEMENTS < length ts → ⊥) → (length ts ≤ MOST_ELEMENTS → MOST_DEPTH < depth (Tuple (row_of ts)) → ⊥) → Some t ≡ tuple_of vs
tuple_shallow vs ts t e f w d = built_shallow (Tuple (row_of ts)) t f (d (omega arith)) ∙ ap in_tuple e

pub tuple_deep : (vs : List (Option Tree)) (ts : List Tree) → Some ts ≡ all_values vs → MOST_DEPTH < depth (Tuple (row_of ts)) → None ≡ tuple_of vs
tuple_deep vs ts e d = sym (deep (Tuple (row_of ts)) d) ∙ ap in_tuple e

pub no_values : (vs : List (Option Tree)) → None ≡ all_values vs → None ≡ tuple_of vs
no_values vs e = ap in_tuple e

pub ruleset tuples_built = (tuple_shallow, tuple_deep, no_values)

-- ---- calls

-- {const,..} of more than one term fails.
pub no_constant : (items : List Tree) → 2 ≤ length items → None ≡ constant (row_of items)
no_constant [] h = absurd (omega arith)
no_constant (t ∷ []) h = absurd (omega arith)
no_constant (t ∷ u ∷ us) h = refl

many : (operator : Operator) (a b c : Option Tree) (more : List (Option Tree)) → None ≡ applied operator (a ∷ b ∷ c ∷ more)
many (One f) a b c more = refl
many (Two f) a b c more = refl
many (Short stop) a b c more = refl

-- An operator fails at more than two arguments.
pub too_many_arguments : (operator : Operator) (s : Scene) (items : List Tree) → 3 ≤ length items → None ≡ applied operator (values s (row_of items))
unfolding values
too_many_arguments operator s [] h = absurd (omega arith)
too_many_arguments operator s (t ∷ []) h = absurd (omega arith)
too_many_arguments operator s (t ∷ u ∷ []) h = absurd (omega arith)
too_many_arguments operator s (t ∷ u ∷ v ∷ us) h = many operator (value s t) (value s u) (value s v) (values s (row_of us))

-- A tuple of one element.
pub only_form : (s : Scene) (items : List Tree) (t : Tree) → 1 ≤ length items → length items < 2 → t ≡ get_or items 0 t
    → form_value s (row_of items) ≡ tuple_value s t
unfolding form_value
only_form s [] t h k e = absurd (omega arith)
only_form s (u ∷ []) t h k e = ap (tuple_value s) (sym e)
only_form s (u ∷ v ∷ us) t h k e = absurd (omega arith)

-- A tuple of more elements.
pub call_form : (s : Scene) (items : List Tree) (t : Tree) → 2 ≤ length items → t ≡ get_or items 0 t
    → form_value s (row_of items)
    ≡ call_value t (row_of (take (length items - 1) (drop 1 items))) (values s (row_of (take (length items - 1) (drop 1 items))))
unfolding form_value values
call_form s [] t h e = absurd (omega arith)
call_form s (u ∷ []) t h e = absurd (omega arith)
call_form s (u ∷ v ∷ us) t h e =
    let behind : take (length (u ∷ v ∷ us) - 1) (v ∷ us) ≡ v ∷ us = take_all (length (u ∷ v ∷ us) - 1) (v ∷ us) (omega arith) in
    rw behind (ap (λ (x : Tree). call_value x (row_of (v ∷ us)) (value s v ∷ values s (row_of us))) (sym e))
