-- Lists of terms.
use Rattle.std.proofs.Common.{◌≡◌, ℕ, zero, suc, ◌≤◌, ◌<◌, ◌+◌, ◌*◌, max, List, [], ◌∷◌, ◌++◌, length, drop, set, get_or, arith, add-one, drop-cons, refl, sym, ◌∙◌, ap}
use Rattle.std.specs.declared.cmp.Ordering.{Ordering}
use Rattle.std.specs.declared.cmp.Ordering.TheVariants.{Less, Equal, Greater}
use Rattle.std.specs.FinMap.{nat_cmp-IsAntisymmetric}
use Rattle.ca_term.specs.Order.{term_cmp, row_cmp}
use Rattle.std.specs.Ordering.{ordering_then, nat_cmp}
use Rattle.std.proofs.lemmas.List.{drop_all}
use denote.Param.Weighed.{most}
use Rattle.ca_term.specs.Tree.{nodes, row_nodes, Tree, Row, Ends, More, IsTerm, IsNarrowRow, AreTerms, Tuple, row_of, elements, row_depth, size}

-- One more term at the end of terms makes terms.
pub AreTerms_push : (ts : List Tree) (t : Tree) → AreTerms ts → IsTerm t → AreTerms (ts ++ t ∷ [])
AreTerms_push [] t all one = (one, tt)
AreTerms_push (u ∷ ts) t all one = (all.0, AreTerms_push ts t all.1 one)

-- A term in the place of another one leaves terms.
pub AreTerms_set : (ts : List Tree) (i : ℕ) (t : Tree) → AreTerms ts → IsTerm t → AreTerms (set ts i t)
AreTerms_set [] i t all one = all
AreTerms_set (u ∷ ts) zero t all one = (one, all.1)
AreTerms_set (u ∷ ts) (suc i) t all one = (all.0, AreTerms_set ts i t all.1 one)

-- A row of terms keeps the bounds of width.
pub narrow_row : (ts : List Tree) → AreTerms ts → IsNarrowRow (row_of ts)
narrow_row [] all = tt
narrow_row (t ∷ ts) all = (all.0.narrow, narrow_row ts all.1)

-- A row has as many elements as the list it is made of.
pub size_row : (ts : List Tree) → size (row_of ts) ≡ length ts
size_row [] = refl
size_row (t ∷ ts) = grind (arith, size_row ts)

-- once nothing is left, the greatest depth so far is that of all
pub row_depth_done : (ts : List Tree) (i d : ℕ) → length ts ≤ i → max d (row_depth (row_of (drop i ts))) ≡ row_depth (row_of ts) → d ≡ row_depth (row_of ts)
row_depth_done ts i d h e = let n : drop i ts ≡ [] = drop_all i ts h in omega (arith, rw n at e)

-- what two rows with more items at a place come to there
pub row_cmp_drop : (r s : List Tree) (i : ℕ) (t u : Tree) → i < length r → i < length s
    → row_cmp (row_of (drop i r)) (row_of (drop i s)) ≡ ordering_then (term_cmp (get_or r i t) (get_or s i u))
    (row_cmp (row_of (drop (i + 1) r)) (row_of (drop (i + 1) s)))
row_cmp_drop r s i t u h k = rw (add-one, drop-cons r i t, drop-cons s i u)

-- Sizes that compare as equal are the same.
pub same_size : (m n : ℕ) → Equal ≡ nat_cmp m n → m ≡ n
same_size m n e = nat_cmp-IsAntisymmetric m n (sym e)

-- Tuples of as many elements compare as their rows do.
pub tuple_cmp_same : (r s : List Tree) → Equal ≡ nat_cmp (length r) (length s) → term_cmp (Tuple (row_of r)) (Tuple (row_of s)) ≡ row_cmp (row_of r) (row_of s)
tuple_cmp_same r s e = rw (size_row r, size_row s, ← e)

-- Behind all items rows are equal.
pub row_cmp_done : (r s : List Tree) (i : ℕ) → length r ≤ i → length s ≤ i → row_cmp (row_of (drop i r)) (row_of (drop i s)) ≡ Equal
row_cmp_done r s i h k = rw (drop_all i r h, drop_all i s k)

then_first : (o p : Ordering) → (o ≡ Equal → ⊥) → ordering_then o p ≡ o
then_first Less p h = refl
then_first Equal p h = absurd (h refl)
then_first Greater p h = refl

-- the first unequal items decide
pub row_cmp_found : (r s : List Tree) (i : ℕ) (t u : Tree) (o : Ordering) → i < length r → i < length s
    → row_cmp (row_of (drop i r)) (row_of (drop i s)) ≡ row_cmp (row_of r) (row_of s) → o ≡ term_cmp (get_or r i t) (get_or s i u) → (o ≡ Equal → ⊥)
    → o ≡ row_cmp (row_of r) (row_of s)
row_cmp_found r s i t u o h k e f n =
    f ∙ sym (then_first (term_cmp (get_or r i t) (get_or s i u)) (row_cmp (row_of (drop (i + 1) r)) (row_of (drop (i + 1) s))) (λ g. n (f ∙ g)))
    ∙ sym (row_cmp_drop r s i t u h k) ∙ e

-- each item of a tuple has fewer nodes than the tuple, as the measure of a drop counts them
pub items_fewer : (ts : List Tree) → most (λ k. 3 * (nodes k + 1) + 0) ts ≤ 3 * (row_nodes (row_of ts) + 1)
items_fewer [] = omega arith
items_fewer (t ∷ ts) = omega (arith, items_fewer ts)

-- an item has no more nodes than all of them
pub nodes_item : (ts : List Tree) (i : ℕ) (d : Tree) → i < length ts → nodes (get_or ts i d) ≤ row_nodes (row_of ts)
nodes_item [] i d h = absurd (omega arith)
nodes_item (t ∷ ts) zero d h = omega arith
nodes_item (t ∷ ts) (suc i) d h = omega (arith, nodes_item ts i d (omega arith))

-- A list of a row's elements makes the row again.
pub row_again : (row : Row) → row_of (elements row) ≡ row
row_again Ends = refl
row_again (More t row) = ap (More t) (row_again row)

-- The elements of a list's row are the list.
pub elements_are : (ts : List Tree) → elements (row_of ts) ≡ ts
elements_are [] = refl
elements_are (t ∷ ts) = ap (λ x. t ∷ x) (elements_are ts)

-- A row has as many elements as its list.
pub length_elements : (row : Row) → length (elements row) ≡ size row
length_elements Ends = refl
length_elements (More t row) = omega (arith, length_elements row)

-- how tuples compare element by element
pub ruleset compared_rows = (size_row, row_cmp_drop, same_size, tuple_cmp_same, row_cmp_done)
