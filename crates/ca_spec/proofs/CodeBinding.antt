-- Parts of heads against codes.
use Rattle.std.proofs.Common.{◌≡◌, ◌≢◌, ℕ, zero, suc, ◌≤◌, ◌<◌, ◌+◌, Bool, true, false, List, [], ◌∷◌, length, take, drop, get_or, Option, Some, None, refl, ap, sym, ◌∙◌, arith, length-append, append_assoc, append-nil, replicate, ◌++◌, ◌-◌, subst}
use Rattle.std.proofs.Math.Seq.{take-append_seam, drop-append_seam}
use Rattle.std.proofs.lemmas.List.{length-take-le, length-drop, length-replicate, take-append-drop}
use Rattle.std.specs.Prelude.{IfSome, codes, if◌then◌else◌, option_and_then}
use Rattle.std.specs.Ordering.{is_eq, ordering_reverse}
use Rattle.std.specs.declared.cmp.Ordering.{Ordering}
use Rattle.std.specs.declared.cmp.Ordering.TheVariants.{Less, Equal, Greater}
use Rattle.ca_term.specs.Tree.{Tree, Row, Integer, Atom, Tuple, Nil, Cons, Binary, is_cell, list_of, row_of}
use Rattle.ca_term.specs.Order.{term_cmp}
use Rattle.ca_term.proofs.TotalOrder.{tree_flip, tree_same}
use Rattle.ca_term.proofs.Rows.{nodes_item}
use Rattle.ca_match.specs.Match.{Bindings, bind, bind_row, where_equal}
use Rattle.ca_match.specs.Operators.{is_tuple}
use Rattle.ca_order.specs.Codes.{BeginsOtherwise, HasNoCell, HasNoTuple, IsOpened, IsOpenedCell}
use Rattle.ca_spec.specs.Parts.{tail_le-list}
use Rattle.ca_spec.specs.PartBound.{AreAsked, IsAsked, elements_of, first, others, parts_in}
use Rattle.ca_spec.specs.Places.{row_places}
use Rattle.ca_spec.proofs.Binding.{anything_fits, cell_end, cell_none, cell_step, cell_stop, cells_from, head_nodes, head_places, tail_places, equal_fits, no_tuple_fits, part_places, rows_from, row_at, row_end, sizes_differ, tuple_fits, variable_fits}

-- ---- constants

itself : (o : Ordering) → o ≡ ordering_reverse o → is_eq o ≡ true
itself Less e = cc
itself Equal e = refl
itself Greater e = cc

unequal : (o : Ordering) → (o ≡ Equal → ⊥) → is_eq o ≡ false
unequal Less n = refl
unequal Equal n = absurd (n refl)
unequal Greater n = refl

-- A constant fits an equal term.
pub equal_told : (b : Bindings) (own : Tree) (terms rest : List Tree) → terms ≡ own ∷ rest → where_equal b own (first terms) ≡ Some b
equal_told b own terms rest e =
    ap (λ (t : List Tree). where_equal b own (first t)) e
    ∙ ap (λ (x : Bool). if x then Some b else None) (itself (term_cmp own own) (tree_flip own own))

-- It fits no other one.
pub unequal_told : (b : Bindings) (own : Tree) (terms : List Tree) → 1 ≤ length terms → BeginsOtherwise own terms → where_equal b own (first terms) ≡ None
unequal_told b own [] h n = absurd (omega arith)
unequal_told b own (t ∷ ts) h n =
    ap (λ (x : Bool). if x then Some b else None)
    (unequal (term_cmp own t) (λ e. n ts (ap (λ (x : Tree). x ∷ ts) (sym (tree_same own t e)))))

-- ---- tuples

-- A tuple fits what stands in the place of the first term, where that is a tuple.
pub tuple_opened : (p : Tree) (row : Row) (b : Bindings) (terms inside : List Tree) (count : ℕ) → Tuple row ≡ p → IsOpened terms count inside
    → bind p (first terms) b ≡ bind_row row (row_of (take count inside)) b
tuple_opened p row b terms inside count e o =
    let t : take count inside ≡ o.items =
    ap (λ (n : ℕ). take n inside) o.many ∙ ap (take (length o.items)) o.inside_is ∙ take-append_seam o.items o.others in
    tuple_fits p (first terms) row (row_of o.items) b e (ap first o.terms_are)
    ∙ ap (λ (ts : List Tree). bind_row row (row_of ts) b) (sym t)

-- Behind the elements stand the other terms.
pub opened_rest : (terms inside : List Tree) (count : ℕ) → IsOpened terms count inside → drop count inside ≡ others terms
opened_rest terms inside count o =
    ap (λ (n : ℕ). drop n inside) o.many ∙ ap (drop (length o.items)) o.inside_is ∙ drop-append_seam o.items o.others ∙ sym (ap others o.terms_are)

-- There are as many elements.
pub opened_many : (terms inside : List Tree) (count : ℕ) → IsOpened terms count inside → count ≤ length inside
opened_many terms inside count o = omega (arith, o.many, ap length o.inside_is, length-append o.items o.others)

not_tuple : (terms : List Tree) → 1 ≤ length terms → HasNoTuple terms → is_tuple (first terms) ≡ false
not_tuple [] h n = absurd (omega arith)
not_tuple (Integer m ∷ ts) h n = refl
not_tuple (Atom text ∷ ts) h n = refl
not_tuple (Tuple row ∷ ts) h n = absurd (n row ts refl)
not_tuple (Nil ∷ ts) h n = refl
not_tuple (Cons head tail ∷ ts) h n = refl
not_tuple (Binary bytes ∷ ts) h n = refl

-- A tuple fits no first term of another kind.
pub no_tuple_first : (p : Tree) (row : Row) (b : Bindings) (terms : List Tree) → Tuple row ≡ p → 1 ≤ length terms → HasNoTuple terms
    → bind p (first terms) b ≡ None
no_tuple_first p row b terms e h n = no_tuple_fits p (first terms) row b e (not_tuple terms h n)

-- ---- elements

-- Tuples of different sizes do not fit.
pub counts_differ : (parts terms : List Tree) (count : ℕ) (b : Bindings) → count ≤ length terms → length parts ≢ count
    → bind_row (row_of parts) (row_of (take count terms)) b ≡ None
counts_differ parts terms count b h n =
    sizes_differ parts (take count terms) b (λ e. n (e ∙ length-take-le count terms h))

taken : (count : ℕ) (terms : List Tree) (k : ℕ) → k < count → count ≤ length terms → get_or (take count terms) k Nil ≡ first (drop k terms)
taken zero terms k h l = absurd (omega arith)
taken (suc n) [] k h l = absurd (omega arith)
taken (suc n) (t ∷ ts) zero h l = refl
taken (suc n) (t ∷ ts) (suc k) h l = taken n ts k (omega arith) (omega arith)

-- What matching the parts of a tuple against so many terms from a place on does.
abbrev pub from_place : List Tree → List Tree → ℕ → ℕ → Bindings → Option Bindings
from_place parts terms count k b = rows_from parts (take count terms) k b

at_place : (parts terms left : List Tree) (count k : ℕ) (d : Tree) (b : Bindings) → k < length parts → length parts ≡ count → count ≤ length terms
    → left ≡ drop k terms → from_place parts terms count k b ≡ option_and_then (from_place parts terms count (k + 1)) (bind (get_or parts k d) (first left) b)
at_place parts terms left count k d b h n l e =
    row_at parts (take count terms) k d Nil b h (omega (arith, length-take-le count terms l, n, h))
    ∙ ap (λ (t : Tree). option_and_then (from_place parts terms count (k + 1)) (bind (get_or parts k d) t b))
    (taken count terms k (omega (arith, h, n)) l ∙ ap first (sym e))

-- Where an element fits, those behind it decide.
pub place_step : (parts terms left : List Tree) (count k : ℕ) (d : Tree) (all : Option Bindings) (b c : Bindings) → k < length parts
    → length parts ≡ count → count ≤ length terms → left ≡ drop k terms → all ≡ from_place parts terms count k b
    → bind (get_or parts k d) (first left) b ≡ Some c → all ≡ from_place parts terms count (k + 1) c
place_step parts terms left count k d all b c h n l e a f =
    a ∙ at_place parts terms left count k d b h n l e ∙ ap (option_and_then (from_place parts terms count (k + 1))) f

-- Where it does not, the tuple does not.
pub place_stop : (parts terms left : List Tree) (count k : ℕ) (d : Tree) (all : Option Bindings) (b : Bindings) → k < length parts
    → length parts ≡ count → count ≤ length terms → left ≡ drop k terms → all ≡ from_place parts terms count k b
    → bind (get_or parts k d) (first left) b ≡ None → all ≡ None
place_stop parts terms left count k d all b h n l e a f =
    a ∙ at_place parts terms left count k d b h n l e ∙ ap (option_and_then (from_place parts terms count (k + 1))) f

-- Behind the last element the bindings are those so far.
pub place_end : (parts terms : List Tree) (count k : ℕ) (all : Option Bindings) (b : Bindings) → length parts ≤ k → length parts ≡ count
    → count ≤ length terms → all ≡ from_place parts terms count k b → all ≡ Some b
place_end parts terms count k all b h n l a =
    row_end parts (take count terms) k all b h (omega (arith, length-take-le count terms l, n, h)) a

drop_next : (k : ℕ) (ts : List Tree) → drop 1 (drop k ts) ≡ drop (suc k) ts
drop_next zero ts = refl
drop_next (suc k) [] = refl
drop_next (suc k) (t ∷ ts) = drop_next k ts

drop_more : (k : ℕ) (ts : List Tree) → drop 1 (drop k ts) ≡ drop (k + 1) ts
drop_more k ts = let e : suc k ≡ k + 1 = omega arith in drop_next k ts ∙ ap (λ (n : ℕ). drop n ts) e

-- The terms behind one more element.
pub left_step : (terms left new : List Tree) (k : ℕ) → left ≡ drop k terms → new ≡ others left → new ≡ drop (k + 1) terms
left_step terms left new k e f = f ∙ ap others e ∙ drop_more k terms

-- There is one left.
pub some_left : (terms left : List Tree) (count k : ℕ) → k < count → count ≤ length terms → left ≡ drop k terms → 1 ≤ length left
some_left terms left count k h l e = omega (arith, ap length e, length-drop k terms)

-- ---- list cells

-- What matching a list from a head on against the first term does.
abbrev pub from_cell : List Tree → Tree → List Tree → ℕ → Bindings → Option Bindings
from_cell heads tail terms k b = cells_from heads tail (first terms) k b

-- Where a head fits, the heads behind it decide.
pub head_step : (heads : List Tree) (tail : Tree) (terms inside new : List Tree) (k : ℕ) (d : Tree) (all : Option Bindings) (b c : Bindings)
    → k < length heads → IsOpenedCell terms inside → new ≡ others inside → all ≡ from_cell heads tail terms k b
    → bind (get_or heads k d) (first inside) b ≡ Some c → all ≡ from_cell heads tail new (k + 1) c
head_step heads tail terms inside new k d all b c h o e a f =
    cell_step heads tail (first terms) o.head o.tail k d all b c true h (ap first o.terms_are) a
    (ap (λ (t : Tree). bind (get_or heads k d) t b) (sym (ap first o.inside_is)) ∙ f) refl
    ∙ ap (λ (t : Tree). cells_from heads tail t (k + 1) c) (sym (ap first (e ∙ ap others o.inside_is)))

-- Where it does not, the list does not.
pub head_stop : (heads : List Tree) (tail : Tree) (terms inside : List Tree) (k : ℕ) (d : Tree) (all : Option Bindings) (b c : Bindings)
    → k < length heads → IsOpenedCell terms inside → all ≡ from_cell heads tail terms k b
    → bind (get_or heads k d) (first inside) b ≡ None → all ≡ None
head_stop heads tail terms inside k d all b c h o a f =
    cell_stop heads tail (first terms) o.head o.tail k d all b c false h (ap first o.terms_are) a
    (ap (λ (t : Tree). bind (get_or heads k d) t b) (sym (ap first o.inside_is)) ∙ f) refl

not_cell : (terms : List Tree) → 1 ≤ length terms → HasNoCell terms → is_cell (first terms) ≡ false
not_cell [] h n = absurd (omega arith)
not_cell (Integer m ∷ ts) h n = refl
not_cell (Atom text ∷ ts) h n = refl
not_cell (Tuple row ∷ ts) h n = refl
not_cell (Nil ∷ ts) h n = refl
not_cell (Cons head tail ∷ ts) h n = absurd (n head tail ts refl)
not_cell (Binary bytes ∷ ts) h n = refl

-- Where a head is left and no cell, the list does not fit.
pub no_head : (heads : List Tree) (tail : Tree) (terms : List Tree) (k : ℕ) (d : Tree) (all : Option Bindings) (b : Bindings) → k < length heads
    → 1 ≤ length terms → HasNoCell terms → all ≡ from_cell heads tail terms k b → all ≡ None
no_head heads tail terms k d all b h l n a = cell_none heads tail (first terms) k d all b h (not_cell terms l n) a

-- Behind a head stand the tail and the other terms.
pub tail_there : (terms inside new : List Tree) → IsOpenedCell terms inside → new ≡ others inside → 1 ≤ length new
tail_there terms inside new o e = omega (arith, ap length (e ∙ ap others o.inside_is))

pub tail_others : (terms inside new : List Tree) → IsOpenedCell terms inside → new ≡ others inside → others new ≡ others terms
tail_others terms inside new o e = ap others (e ∙ ap others o.inside_is) ∙ sym (ap others o.terms_are)

-- There is a head.
pub head_there : (terms inside : List Tree) → IsOpenedCell terms inside → 1 ≤ length inside
head_there terms inside o = omega (arith, ap length o.inside_is)

-- What the tail tells is what is told.
pub tail_told : (r : Option Bool) (heads : List Tree) (tail : Tree) (terms : List Tree) (k : ℕ) (all : Option Bindings) (b c : Bindings)
    → length heads ≤ k → all ≡ from_cell heads tail terms k b → IfSome r (λ fits. bind tail (first terms) b ≡ (if fits then Some c else None))
    → IfSome r (λ fits. all ≡ (if fits then Some c else None))
tail_told None heads tail terms k all b c h a f = tt
tail_told (Some fits) heads tail terms k all b c h a f = cell_end heads tail (first terms) k all b c fits h a f

-- ---- elements that are not asked for

then_then : (f g : Bindings → Option Bindings) (o : Option Bindings)
    → option_and_then g (option_and_then f o) ≡ option_and_then (λ b. option_and_then g (f b)) o
then_then f g None = refl
then_then f g (Some b) = refl

then_same : (f g : Bindings → Option Bindings) (o : Option Bindings) → ((b : Bindings) → f b ≡ g b) → option_and_then f o ≡ option_and_then g o
then_same f g None h = refl
then_same f g (Some b) h = h b

then_some : (f : Bindings → Option Bindings) (o : Option Bindings) → ((b : Bindings) → f b ≡ Some b) → option_and_then f o ≡ o
then_some f None h = refl
then_some f (Some b) h = h b

any_rest : (more : ℕ) (ts : List Tree) (b : Bindings) → length ts ≡ more → bind_row (row_of (replicate more (Atom (codes "_")))) (row_of ts) b ≡ Some b
unfolding bind bind_row
any_rest zero [] b e = refl
any_rest zero (t ∷ ts) b e = absurd (omega arith)
any_rest (suc n) [] b e = absurd (omega arith)
any_rest (suc n) (t ∷ ts) b e = any_rest n ts b (omega arith)

both_rows : (ps qs us ws : List Tree) (b : Bindings) → length ps ≡ length us
    → bind_row (row_of (ps ++ qs)) (row_of (us ++ ws)) b ≡ option_and_then (bind_row (row_of qs) (row_of ws)) (bind_row (row_of ps) (row_of us) b)
unfolding bind_row
both_rows [] qs [] ws b e = refl
both_rows [] qs (u ∷ us) ws b e = absurd (omega arith)
both_rows (p ∷ ps) qs [] ws b e = absurd (omega arith)
both_rows (p ∷ ps) qs (u ∷ us) ws b e =
    then_same (bind_row (row_of (ps ++ qs)) (row_of (us ++ ws)))
    (λ c. option_and_then (bind_row (row_of qs) (row_of ws)) (bind_row (row_of ps) (row_of us) c)) (bind p u b)
    (λ c. both_rows ps qs us ws c (omega arith))
    ∙ sym (then_then (bind_row (row_of ps) (row_of us)) (bind_row (row_of qs) (row_of ws)) (bind p u b))

take_take : (m n : ℕ) (ts : List Tree) → m ≤ n → take m (take n ts) ≡ take m ts
take_take zero n ts h = refl
take_take (suc m) zero ts h = absurd (omega arith)
take_take (suc m) (suc n) [] h = refl
take_take (suc m) (suc n) (t ∷ ts) h = ap (λ (x : List Tree). t ∷ x) (take_take m n ts (omega arith))

more_places : (ps qs : List Tree) → row_places (row_of ps) ≤ row_places (row_of (ps ++ qs))
more_places [] qs = omega arith
more_places (p ∷ ps) qs = omega (arith, more_places ps qs)

-- the parts that are not asked for
abbrev any_parts : ℕ → List Tree
any_parts more = replicate more (Atom (codes "_"))

asked_length : (parts asked : List Tree) (a : IsAsked parts asked) → length parts ≡ length asked + a.more
asked_length parts asked a =
    ap length a.parts_are ∙ length-append asked (any_parts a.more) ∙ ap (λ (n : ℕ). length asked + n) (length-replicate a.more (Atom (codes "_")))

-- Elements that are not asked for fit.
asked_fit : (parts asked items : List Tree) (b : Bindings) → IsAsked parts asked → length parts ≡ length items
    → bind_row (row_of parts) (row_of items) b ≡ bind_row (row_of asked) (row_of (take (length asked) items)) b
asked_fit parts asked items b a e =
    let n : length parts ≡ length asked + a.more = asked_length parts asked a in
    let k : length asked ≡ length (take (length asked) items) = omega (arith, n, e, length-take-le (length asked) items (omega (arith, n, e))) in
    let m : length (drop (length asked) items) ≡ a.more = omega (arith, n, e, length-drop (length asked) items) in
    ap (λ (ps : List Tree). bind_row (row_of ps) (row_of items) b) a.parts_are
    ∙ ap (λ (us : List Tree). bind_row (row_of (asked ++ any_parts a.more)) (row_of us) b) (sym (take-append-drop (length asked) items))
    ∙ both_rows asked (any_parts a.more) (take (length asked) items) (drop (length asked) items) b k
    ∙ then_some (bind_row (row_of (any_parts a.more)) (row_of (drop (length asked) items)))
    (bind_row (row_of asked) (row_of (take (length asked) items)) b) (λ c. any_rest a.more (drop (length asked) items) c m)

-- What the asked elements of a tuple tell is what the tuple does.
pub object_asked : (p object : Tree) (row asked terms inside : List Tree) (count : ℕ) (b : Bindings) → Tuple (row_of row) ≡ p → terms ≡ object ∷ []
    → IsOpened terms count inside → length row ≡ count → IsAsked row asked
    → bind_row (row_of asked) (row_of (take (length asked) inside)) b ≡ bind p object b
object_asked p object row asked terms inside count b e t o n a =
    let l : length asked ≤ count = omega (arith, n, asked_length row asked a) in
    ap (λ (us : List Tree). bind_row (row_of asked) (row_of us) b) (sym (take_take (length asked) count inside l))
    ∙ sym (asked_fit row asked (take count inside) b a (n ∙ sym (length-take-le count inside (opened_many terms inside count o))))
    ∙ sym (tuple_opened p (row_of row) b terms inside count e o) ∙ ap (λ (ts : List Tree). bind p (first ts) b) t

-- There are as many codes as are asked for.
pub asked_there : (row asked terms inside : List Tree) (count : ℕ) → IsOpened terms count inside → length row ≡ count → IsAsked row asked
    → length asked ≤ length inside
asked_there row asked terms inside count o n a = omega (arith, opened_many terms inside count o, n, asked_length row asked a)

-- A table with room for all parts has room for those.
pub asked_places : (row asked : List Tree) (n : ℕ) → IsAsked row asked → row_places (row_of row) ≤ n → row_places (row_of asked) ≤ n
asked_places row asked n a h =
    omega (arith, h, ap (λ (x : List Tree). row_places (row_of x)) a.parts_are, more_places asked (any_parts a.more))

-- One more '_' at the end is not asked for.
pub asked_more : (parts front others : List Tree) (last : Tree) → IsAsked parts front → front ≡ others ++ last ∷ [] → Atom (codes "_") ≡ last
    → IsAsked parts others
asked_more parts front others last a e f = record {
  more = suc a.more;
  parts_are = a.parts_are ∙ ap (λ (x : List Tree). x ++ any_parts a.more) (e ∙ ap (λ (t : Tree). others ++ t ∷ []) (sym f))
      ∙ append_assoc others (Atom (codes "_") ∷ []) (any_parts a.more);
}

-- All parts are asked for at first.
pub asked_all : (parts : List Tree) → IsAsked parts parts
asked_all parts = record { more = 0; parts_are = sym (append-nil parts) }

elements_back : (ts : List Tree) → elements_of (row_of ts) ≡ ts
elements_back [] = refl
elements_back (t ∷ ts) = ap (λ (x : List Tree). t ∷ x) (elements_back ts)

asked_same : (items parts : List Tree) (asked : ℕ) → items ≡ parts
    → (asked ≤ length items) × IsAsked items (take asked items) → (asked ≤ length parts) × IsAsked parts (take asked parts)
asked_same items parts asked e a = subst (λ (x : List Tree). (asked ≤ length x) × IsAsked x (take asked x)) e a

-- The parts of a tuple that are asked for.
pub asked_of : (head : Tree) (items : List Tree) (asked : ℕ) → Tuple (row_of items) ≡ head → AreAsked head asked
    → (asked ≤ length items) × IsAsked items (take asked items)
asked_of head items asked e a =
    let all = parts_in head in
    asked_same all items asked (sym (ap parts_in e) ∙ elements_back items) (
      a.0,
      record {
        more = length all - asked;
        parts_are = sym (take-append-drop asked all) ∙ ap (λ (x : List Tree). take asked all ++ x) a.1;
      },
    )

-- So many are asked for as stand before the last ones that are '_'.
pub asked_many : (head : Tree) (items asked : List Tree) → Tuple (row_of items) ≡ head → IsAsked items asked → AreAsked head (length asked)
asked_many head items asked e a =
    let n = length asked in
    let long : length items ≡ n + a.more = asked_length items asked a in
    let behind : drop n items ≡ replicate (length items - n) (Atom (codes "_")) =
    ap (drop n) a.parts_are ∙ drop-append_seam asked (any_parts a.more)
    ∙ ap (λ (k : ℕ). replicate k (Atom (codes "_"))) (omega (arith, long)) in
    subst (λ (x : List Tree). (n ≤ length x) × (drop n x ≡ replicate (length x - n) (Atom (codes "_"))))
    (sym (elements_back items) ∙ ap parts_in e) (omega (arith, long), behind)

-- Of a head that is no tuple none may be.
pub asked_none : (head : Tree) → parts_in head ≡ [] → AreAsked head 0
asked_none head e =
    subst (λ (x : List Tree). (0 ≤ length x) × (drop 0 x ≡ replicate (length x - 0) (Atom (codes "_")))) (sym e) (omega arith, refl)

no_parts : (heads : List Tree) (tail : Tree) → 0 < length heads → parts_in (list_of heads tail) ≡ []
no_parts [] tail h = absurd (omega arith)
no_parts (t ∷ ts) tail h = refl

pub asked_list : (head : Tree) (heads : List Tree) (tail : Tree) → 0 < length heads → list_of heads tail ≡ head → AreAsked head 0
asked_list head heads tail h e = asked_none head (sym (ap parts_in e) ∙ no_parts heads tail h)

-- A tuple of another size doesn't fit, nor does another term.
pub other_count : (p object : Tree) (row terms inside : List Tree) (count : ℕ) (b : Bindings) → Tuple (row_of row) ≡ p → terms ≡ object ∷ []
    → IsOpened terms count inside → length row ≢ count → bind p object b ≡ None
other_count p object row terms inside count b e t o n =
    sym (ap (λ (ts : List Tree). bind p (first ts) b) t) ∙ tuple_opened p (row_of row) b terms inside count e o
    ∙ counts_differ row inside count b (opened_many terms inside count o) n

pub other_object : (p object : Tree) (row terms : List Tree) (b : Bindings) → Tuple (row_of row) ≡ p → terms ≡ object ∷ [] → HasNoTuple terms
    → bind p object b ≡ None
other_object p object row terms b e t n =
    sym (ap (λ (ts : List Tree). bind p (first ts) b) t) ∙ no_tuple_first p (row_of row) b terms e (omega (arith, ap length t)) n

-- How a head fits an object.
pub ruleset object_fits = (object_asked, asked_there, asked_places, other_count, other_object)

-- Which parts of a head are asked for.
pub ruleset asked_parts = (asked_all, asked_more)

-- How each shape of a part fits a code.
pub ruleset part_fits = (anything_fits, variable_fits, equal_fits, tuple_opened, no_tuple_first, opened_rest, opened_many)

-- How the heads of a list fit codes, one after the other.
pub ruleset cells_fit = (head_stop, no_head, tail_there, tail_others, head_there, head_places, tail_places, head_nodes, tail_le-list)

-- How the parts of a tuple fit codes, one after the other.
pub ruleset rows_fit = (counts_differ, place_step, place_stop, place_end, left_step, some_left, part_places, nodes_item)
