-- Parts and sizes of terms.
use Rattle.std.proofs.Common.{◌≡◌, ℕ, suc, ◌+◌, ◌≤◌, ◌^◌, ℤ, pos, List, [], ◌∷◌, length, Option, Some, None, refl, ap, sym, ◌∙◌, arith}
use Rattle.std.specs.Option.{option_map}
use Rattle.ca_term.specs.Tree.{Tree, Integer, Atom, Tuple, Nil, Cons, Binary, elements, row_of, size}
use Rattle.ca_term.specs.Updates.{integer_of}
use Rattle.ca_match.specs.Operators.{counted, either_size, element, list_length, tuple_size, word}
use Rattle.ca_match.proofs.Words.{no_word}
use Rattle.ca_match.specs.ValueView.{counted_from, element_at}

elements_row : (items : List Tree) → elements (row_of items) ≡ items
elements_row [] = refl
elements_row (t ∷ ts) = ap (λ (more : List Tree). t ∷ more) (elements_row ts)

size_row : (items : List Tree) → size (row_of items) ≡ length items
size_row [] = refl
size_row (t ∷ ts) = omega (arith, size_row ts)

-- An element of a tuple.
pub element_in : (items : List Tree) (n : ℤ) → element_at items n ≡ element (Integer n) (Tuple (row_of items))
element_in items n = rw (elements_row items, size_row items) refl

sized : (items : List Tree) (r : Option Tree) → r ≡ word (pos (length items)) → r ≡ word (pos (size (row_of items)))
sized items r h = h ∙ ap (λ (n : ℕ). word (pos n)) (sym (size_row items))

-- A tuple's size.
pub tuple_sized : (items : List Tree) (t : Tree) (r : Option ℤ) → Tuple (row_of items) ≡ t → option_map Integer r ≡ word (pos (length items))
    → option_map Integer r ≡ counted tuple_size t
tuple_sized items t r e h = sized items (option_map Integer r) h ∙ ap (counted tuple_size) e

pub either_sized : (items : List Tree) (t : Tree) (r : Option ℤ) → Tuple (row_of items) ≡ t → option_map Integer r ≡ word (pos (length items))
    → option_map Integer r ≡ counted either_size t
either_sized items t r e h = sized items (option_map Integer r) h ∙ ap (counted either_size) e

-- ---- lengths of lists

count_more : (n : ℕ) (c : Option ℕ) → counted_from n (option_map suc c) ≡ counted_from (n + 1) c
count_more n None = refl
count_more n (Some k) = ap (λ (m : ℕ). word (pos m)) (omega arith)

-- One more cell.
pub one_more : (all : Option Tree) (n : ℕ) (t head tail : Tree) → Cons head tail ≡ t → all ≡ counted_from n (list_length t)
    → all ≡ counted_from (n + 1) (list_length tail)
one_more all n t head tail e h = h ∙ ap (λ (u : Tree). counted_from n (list_length u)) (sym e) ∙ count_more n (list_length tail)

past_word : (m : ℕ) → 2 ^ 63 ≤ m → None ≡ word (pos m)
past_word m h = no_word (pos m) (λ f. absurd (omega (arith, f.sfits)))

none_counted : (n : ℕ) (c : Option ℕ) → 2 ^ 63 ≤ n → None ≡ counted_from n c
none_counted n None h = refl
none_counted n (Some k) h = past_word (n + k) (omega arith)

-- More cells than can be counted.
pub too_many : (all : Option Tree) (n : ℕ) (t : Tree) → 2 ^ 63 ≤ n → all ≡ counted_from n (list_length t) → None ≡ all
too_many all n t l h = none_counted n (list_length t) l ∙ sym h

-- The list's end.
pub no_more : (all : Option Tree) (n : ℕ) (t : Tree) (r : Option ℤ) → Nil ≡ t → all ≡ counted_from n (list_length t) → option_map Integer r ≡ word (pos n)
    → option_map Integer r ≡ all
no_more all n t r e h w = w ∙ ap (λ (m : ℕ). word (pos m)) (omega arith) ∙ ap (λ (u : Tree). counted_from n (list_length u)) e ∙ sym h

-- ---- elements by a term

some_is : (n m : ℤ) → Some n ≡ Some m → n ≡ m
some_is n m h = cc

-- The first argument is the place.
pub element_of : (t u : Tree) (n : ℤ) → Some n ≡ integer_of t → element (Integer n) u ≡ element t u
element_of (Integer m) u n h = ap (λ (k : ℤ). element (Integer k) u) (some_is n m h)
element_of (Atom text) u n h = cc
element_of (Tuple row) u n h = cc
element_of Nil u n h = cc
element_of (Cons head tail) u n h = cc
element_of (Binary bytes) u n h = cc

pub no_element : (t u : Tree) → None ≡ integer_of t → None ≡ element t u
no_element (Integer m) u h = cc
no_element (Atom text) u h = refl
no_element (Tuple row) u h = refl
no_element Nil u h = refl
no_element (Cons head tail) u h = refl
no_element (Binary bytes) u h = refl
