-- Parts of heads against terms.
use Rattle.std.proofs.Common.{◌≡◌, ℕ, zero, suc, ◌≤◌, ◌<◌, ◌+◌, Bool, true, false, List, [], ◌∷◌, length, drop, get_or, Option, Some, None, refl, ap, sym, ◌∙◌, arith, add-one, drop-cons}
use Rattle.std.proofs.lemmas.List.{drop_all}
use Rattle.std.specs.Prelude.{codes, if◌then◌else◌, option_and_then, is_none, not, ◌&&◌}
use Rattle.ca_term.specs.Tree.{Tree, Row, Integer, Atom, Tuple, Nil, Cons, Binary, is_cell, list_of, nodes, row_of}
use Rattle.ca_term.proofs.Rows.{nodes_item}
use Rattle.ca_match.specs.Match.{Bindings, bind, bind_name, bind_row, bind_variable, bound, where_equal}
use Rattle.ca_match.specs.Operators.{is_tuple}
use Rattle.ca_match.specs.Spelling.{variable_name}
use Rattle.ca_match.specs.Variable.{is_wildcard, variable_of}
use Rattle.ca_match.proofs.Heads.{no_cell, no_tuple, row_step, row_stop}
pub use Rattle.ca_match.proofs.Heads.{row_at, row_end, rows_from, sizes_differ}
use Rattle.ca_spec.specs.Parts.{tail_le-list}
use Rattle.ca_spec.specs.PatternView.{fits_equal}
use Rattle.ca_spec.specs.Places.{places, row_places}
use Rattle.ca_spec.proofs.Names.{no_wildcard, number_of_name}

-- ---- one part

-- The wildcard fits each term and binds nothing.
pub anything_fits : (p t : Tree) (b : Bindings) → Atom (codes "_") ≡ p → bind p t b ≡ Some b
unfolding bind
anything_fits p t b e = ap (λ (x : Tree). bind x t b) (sym e)

variable_at : (n : ℕ) (t : Tree) (b : Bindings) → n < 100 → bind (Atom (variable_name n)) t b ≡ bind_variable b n (bound b n) t
unfolding bind
variable_at n t b h = rw (no_wildcard n, number_of_name n h) refl

-- A variable fits as what is bound to its number says.
pub variable_fits : (p t : Tree) (b : Bindings) (n : ℕ) → n < 100 → Atom (variable_name n) ≡ p → bind p t b ≡ bind_variable b n (bound b n) t
variable_fits p t b n h e = ap (λ (x : Tree). bind x t b) (sym e) ∙ variable_at n t b h

equal_name : (text : List ℕ) (t : Tree) (b : Bindings) (w : Bool) (v : Option ℕ) → (not w && is_none v) ≡ true
    → (if w then Some b else bind_name b text v t) ≡ where_equal b (Atom text) t
equal_name text t b true v h = cc
equal_name text t b false None h = refl
equal_name text t b false (Some n) h = cc

-- A part that is no variable, tuple or list cell fits an equal term.
pub equal_fits : (p t : Tree) (b : Bindings) → fits_equal p ≡ true → bind p t b ≡ where_equal b p t
unfolding bind
equal_fits (Integer n) t b h = refl
equal_fits (Atom text) t b h = equal_name text t b (is_wildcard text) (variable_of text) h
equal_fits (Tuple row) t b h = cc
equal_fits Nil t b h = refl
equal_fits (Cons head tail) t b h = cc
equal_fits (Binary bytes) t b h = refl

-- A tuple fits a tuple as its elements do.
pub tuple_fits : (p t : Tree) (row elements : Row) (b : Bindings) → Tuple row ≡ p → t ≡ Tuple elements → bind p t b ≡ bind_row row elements b
unfolding bind
tuple_fits p t row elements b e f = rw (← e, f) refl

-- A tuple fits no term of another kind.
pub no_tuple_fits : (p t : Tree) (row : Row) (b : Bindings) → Tuple row ≡ p → is_tuple t ≡ false → bind p t b ≡ None
no_tuple_fits p t row b e h = ap (λ (x : Tree). bind x t b) (sym e) ∙ no_tuple row t b h

-- ---- list cells

-- What matching a list from a head on does.
abbrev pub cells_from : List Tree → Tree → Tree → ℕ → Bindings → Option Bindings
cells_from heads tail rest k b = bind (list_of (drop k heads) tail) rest b

cell_at : (heads : List Tree) (tail first behind : Tree) (k : ℕ) (d : Tree) (b : Bindings) → k < length heads
    → cells_from heads tail (Cons first behind) k b ≡ option_and_then (cells_from heads tail behind (k + 1)) (bind (get_or heads k d) first b)
unfolding bind
cell_at heads tail first behind k d b h = rw (add-one, drop-cons heads k d) refl

-- Where a head fits the first element, the heads behind it decide.
pub cell_step : (heads : List Tree) (tail rest first behind : Tree) (k : ℕ) (d : Tree) (all : Option Bindings) (b c : Bindings) (r : Bool) → k < length heads
    → rest ≡ Cons first behind → all ≡ cells_from heads tail rest k b → bind (get_or heads k d) first b ≡ (if r then Some c else None) → r ≡ true
    → all ≡ cells_from heads tail behind (k + 1) c
cell_step heads tail rest first behind k d all b c r h e a f t =
    a ∙ ap (λ (x : Tree). cells_from heads tail x k b) e ∙ cell_at heads tail first behind k d b h
    ∙ ap (option_and_then (cells_from heads tail behind (k + 1))) (f ∙ ap (λ (x : Bool). if x then Some c else None) t)

-- Where a head does not fit the first element, the list fits nothing.
pub cell_stop : (heads : List Tree) (tail rest first behind : Tree) (k : ℕ) (d : Tree) (all : Option Bindings) (b c : Bindings) (r : Bool) → k < length heads
    → rest ≡ Cons first behind → all ≡ cells_from heads tail rest k b → bind (get_or heads k d) first b ≡ (if r then Some c else None) → r ≡ false
    → all ≡ None
cell_stop heads tail rest first behind k d all b c r h e a f t =
    a ∙ ap (λ (x : Tree). cells_from heads tail x k b) e ∙ cell_at heads tail first behind k d b h
    ∙ ap (option_and_then (cells_from heads tail behind (k + 1))) (f ∙ ap (λ (x : Bool). if x then Some c else None) t)

-- Where a head is left and no cell, the list does not fit.
pub cell_none : (heads : List Tree) (tail rest : Tree) (k : ℕ) (d : Tree) (all : Option Bindings) (b : Bindings) → k < length heads
    → is_cell rest ≡ false → all ≡ cells_from heads tail rest k b → all ≡ None
cell_none heads tail rest k d all b h n a =
    a ∙ ap (λ (x : List Tree). bind (list_of x tail) rest b) (drop-cons heads k d h) ∙ no_cell (get_or heads k d) (list_of (drop (suc k) heads) tail) rest b n

-- Behind the last head the tail decides.
pub cell_end : (heads : List Tree) (tail rest : Tree) (k : ℕ) (all : Option Bindings) (b c : Bindings) (r : Bool) → length heads ≤ k
    → all ≡ cells_from heads tail rest k b → bind tail rest b ≡ (if r then Some c else None) → all ≡ (if r then Some c else None)
cell_end heads tail rest k all b c r h a f = a ∙ ap (λ (x : List Tree). bind (list_of x tail) rest b) (drop_all k heads h) ∙ f

-- ---- places and nodes of parts

-- A table with room for a tuple has room for each of its elements.
pub part_places : (parts : List Tree) (k n : ℕ) (d : Tree) → k < length parts → row_places (row_of parts) ≤ n → places (get_or parts k d) ≤ n
part_places [] k n d h l = absurd (omega arith)
part_places (t ∷ ts) zero n d h l = omega arith
part_places (t ∷ ts) (suc k) n d h l = part_places ts k n d (omega arith) (omega arith)

-- A table with room for a list has room for each of its heads.
pub head_places : (heads : List Tree) (tail : Tree) (k n : ℕ) (d : Tree) → k < length heads → places (list_of heads tail) ≤ n → places (get_or heads k d) ≤ n
head_places [] tail k n d h l = absurd (omega arith)
head_places (t ∷ ts) tail zero n d h l = omega arith
head_places (t ∷ ts) tail (suc k) n d h l = head_places ts tail k n d (omega arith) (omega arith)

-- A table with room for a list has room for its tail.
pub tail_places : (heads : List Tree) (tail : Tree) (n : ℕ) → places (list_of heads tail) ≤ n → places tail ≤ n
tail_places [] tail n l = l
tail_places (t ∷ ts) tail n l = tail_places ts tail n (omega arith)

-- A head of a list has fewer nodes than the list.
pub head_nodes : (heads : List Tree) (tail : Tree) (k : ℕ) (d : Tree) → k < length heads → nodes (get_or heads k d) < nodes (list_of heads tail)
head_nodes [] tail k d h = absurd (omega arith)
head_nodes (t ∷ ts) tail zero d h = omega arith
head_nodes (t ∷ ts) tail (suc k) d h = omega (arith, head_nodes ts tail k d (omega arith))

-- How each shape of a part fits a term.
pub ruleset part_fits = (anything_fits, variable_fits, equal_fits, tuple_fits, no_tuple_fits)

-- How the parts of a tuple fit its elements, one after the other.
pub ruleset rows_fit = (sizes_differ, row_step, row_stop, row_end, part_places, nodes_item)

-- How the heads and the tail of a list fit its cells, one after the other.
pub ruleset cells_fit = (cell_step, cell_stop, cell_none, cell_end, head_places, tail_places, head_nodes, tail_le-list)
