-- What tuples and list cells of heads fit.
use Rattle.std.proofs.Common.{◌≡◌, ◌≢◌, ℕ, ◌≤◌, ◌<◌, ◌+◌, Bool, true, false, List, [], ◌∷◌, length, drop, get_or, Option, Some, None, refl, ap, ◌∙◌, arith, add-one, drop-cons}
use Rattle.std.proofs.lemmas.List.{drop_all}
use Rattle.std.specs.Prelude.{if◌then◌else◌, option_and_then}
use Rattle.ca_term.specs.Tree.{Tree, Row, Integer, Atom, Tuple, Nil, Cons, Binary, is_cell, row_of}
use Rattle.ca_term.proofs.Rows.{nodes_item}
use Rattle.ca_match.specs.Match.{Bindings, bind, bind_row}
use Rattle.ca_match.specs.Operators.{is_tuple}

-- A tuple fits no term of another kind.
pub no_tuple : (row : Row) (t : Tree) (b : Bindings) → is_tuple t ≡ false → bind (Tuple row) t b ≡ None
unfolding bind
no_tuple row (Integer n) b h = refl
no_tuple row (Atom text) b h = refl
no_tuple row (Tuple elements) b h = cc
no_tuple row Nil b h = refl
no_tuple row (Cons head tail) b h = refl
no_tuple row (Binary bytes) b h = refl

-- A list cell fits no term of another kind.
pub no_cell : (p q t : Tree) (b : Bindings) → is_cell t ≡ false → bind (Cons p q) t b ≡ None
unfolding bind
no_cell p q (Integer n) b h = refl
no_cell p q (Atom text) b h = refl
no_cell p q (Tuple elements) b h = refl
no_cell p q Nil b h = refl
no_cell p q (Cons head tail) b h = cc
no_cell p q (Binary bytes) b h = refl

-- ---- elements of tuples

none_then : (f : Bindings → Option Bindings) (o : Option Bindings) → ((b : Bindings) → f b ≡ None) → option_and_then f o ≡ None
none_then f None h = refl
none_then f (Some b) h = h b

-- Tuples of different sizes do not fit.
pub sizes_differ : (parts items : List Tree) (b : Bindings) → length parts ≢ length items → bind_row (row_of parts) (row_of items) b ≡ None
unfolding bind_row
sizes_differ [] [] b h = absurd (h refl)
sizes_differ [] (u ∷ us) b h = refl
sizes_differ (t ∷ ts) [] b h = refl
sizes_differ (t ∷ ts) (u ∷ us) b h =
    none_then (bind_row (row_of ts) (row_of us)) (bind t u b) (λ c. sizes_differ ts us c (λ e. h (omega arith)))

-- What matching the parts of a tuple from a place on does.
abbrev pub rows_from : List Tree → List Tree → ℕ → Bindings → Option Bindings
rows_from parts items k b = bind_row (row_of (drop k parts)) (row_of (drop k items)) b

-- What the part at a place does, and those behind it.
pub row_at : (parts items : List Tree) (k : ℕ) (d e : Tree) (b : Bindings) → k < length parts → k < length items
    → rows_from parts items k b
    ≡ option_and_then (rows_from parts items (k + 1)) (bind (get_or parts k d) (get_or items k e) b)
unfolding bind_row
row_at parts items k d e b h i = rw (add-one, drop-cons parts k d, drop-cons items k e) refl

-- Where an element fits, the elements behind it decide.
pub row_step : (parts items : List Tree) (k : ℕ) (d e : Tree) (all : Option Bindings) (b c : Bindings) (r : Bool) → k < length parts → k < length items
    → all ≡ rows_from parts items k b → bind (get_or parts k d) (get_or items k e) b ≡ (if r then Some c else None) → r ≡ true
    → all ≡ rows_from parts items (k + 1) c
row_step parts items k d e all b c r h i a f t =
    a ∙ row_at parts items k d e b h i
    ∙ ap (option_and_then (rows_from parts items (k + 1))) (f ∙ ap (λ (x : Bool). if x then Some c else None) t)

-- Where an element does not fit, the tuple does not.
pub row_stop : (parts items : List Tree) (k : ℕ) (d e : Tree) (all : Option Bindings) (b c : Bindings) (r : Bool) → k < length parts → k < length items
    → all ≡ rows_from parts items k b → bind (get_or parts k d) (get_or items k e) b ≡ (if r then Some c else None) → r ≡ false
    → all ≡ None
row_stop parts items k d e all b c r h i a f t =
    a ∙ row_at parts items k d e b h i
    ∙ ap (option_and_then (rows_from parts items (k + 1))) (f ∙ ap (λ (x : Bool). if x then Some c else None) t)

-- Behind the last element the bindings are those so far.
pub row_end : (parts items : List Tree) (k : ℕ) (all : Option Bindings) (b : Bindings) → length parts ≤ k → length items ≤ k
    → all ≡ rows_from parts items k b → all ≡ Some b
unfolding bind_row
row_end parts items k all b h i a = a ∙ (rw (drop_all k parts h, drop_all k items i) refl)

-- Tuples fit where all their elements do, from the left.
pub ruleset rows_fit = (sizes_differ, row_step, row_stop, row_end, nodes_item)
