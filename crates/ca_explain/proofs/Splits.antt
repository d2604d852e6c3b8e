-- A row of terms is what stands before one of its elements, this element, and what stands behind it.
use Rattle.std.proofs.Common.{◌≡◌, ℕ, zero, suc, ◌<◌, ◌+◌, max, ◌∷◌, ◌++◌, arith, refl, sym, ◌∙◌, ap, append_assoc}
use Rattle.std.specs.Prelude.{slice_index_or}
use Rattle.ca_term.specs.Tree.{Tree, Row, Nil, Ends, More, elements, size, row_depth, IsNarrowRow}
use Rattle.ca_term.specs.Code.{code_of, row_code}

-- a row and then another one
abbrev pub joined : Row → Row → Row
joined Ends others = others
joined (More t row) others = More t (joined row others)

pub record Split (row : Row) (n : ℕ) : Type 0 where
  pub before : Row
  pub element : Tree
  pub behind : Row
  pub row_is : row ≡ joined before (More element behind)
  pub many : size before ≡ n

-- A row has an element at each place below its size.
pub split : (row : Row) (n : ℕ) → n < size row → Split row n
split Ends n h = absurd (omega arith)
split (More t row) zero h = record { before = Ends; element = t; behind = row; row_is = refl; many = refl }
split (More t row) (suc n) h =
    let s = split row n (omega arith) in
    record { before = More t s.before; element = s.element; behind = s.behind; row_is = ap (More t) s.row_is; many = omega (arith, s.many) }

-- The codes of joined rows stand one behind the other.
pub joined_code : (r s : Row) → row_code (joined r s) ≡ row_code r ++ row_code s
unfolding row_code
joined_code Ends s = refl
joined_code (More t r) s = ap (λ x. code_of t ++ x) (joined_code r s) ∙ sym (append_assoc (code_of t) (row_code r) (row_code s))

-- The codes of a row's elements are those before an element, its own, and those behind it.
pub around_code : (r : Row) (t : Tree) (s : Row) → row_code (joined r (More t s)) ≡ row_code r ++ (code_of t ++ row_code s)
unfolding row_code
around_code r t s = joined_code r (More t s)

-- Joined rows have the elements of both.
pub joined_size : (r s : Row) → size (joined r s) ≡ size r + size s
joined_size Ends s = omega arith
joined_size (More t r) s = omega (arith, joined_size r s)

-- Joined rows are as deep as the deeper one.
pub joined_depth : (r s : Row) → row_depth (joined r s) ≡ max (row_depth r) (row_depth s)
joined_depth Ends s = omega arith
joined_depth (More t r) s = omega (arith, joined_depth r s)

-- Joined rows keep the bounds where both do.
pub joined_narrow : (r s : Row) → IsNarrowRow r → IsNarrowRow s → IsNarrowRow (joined r s)
joined_narrow Ends s h k = k
joined_narrow (More t r) s h k = (h.0, joined_narrow r s h.1 k)

-- Both rows keep the bounds where the joined one does.
pub parts_narrow : (r s : Row) → IsNarrowRow (joined r s) → IsNarrowRow r × IsNarrowRow s
parts_narrow Ends s h = (tt, h)
parts_narrow (More t r) s h = let parts = parts_narrow r s h.1 in ((h.0, parts.0), parts.1)

-- The element stands behind those before it.
pub element_at : (r : Row) (t : Tree) (s : Row) → slice_index_or (elements (joined r (More t s))) (size r) Nil ≡ t
element_at Ends t s = refl
element_at (More u r) t s =
    let next : 1 + size r ≡ suc (size r) = omega arith in
    ap (λ (n : ℕ). slice_index_or (u ∷ elements (joined r (More t s))) n Nil) next ∙ element_at r t s
