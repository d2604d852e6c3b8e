-- A tuple's code by its elements.
use Rattle.std.proofs.Common.{◌≡◌, ℕ, zero, suc, ◌≤◌, ◌<◌, ◌+◌, List, [], ◌∷◌, ◌++◌, length, drop, get_or, arith, refl, sym, ◌∙◌, ap, subst, length-append}
use Rattle.std.proofs.Math.Seq.{drop-append_seam}
use Rattle.ca_term.specs.declared.bounds.TheConstants.{MOST_ELEMENTS}
use Rattle.ca_term.specs.Tree.{Tree, Row, Tuple, Nil, row_of, elements, IsTerm, IsNarrow, IsNarrowRow}
use Rattle.ca_term.specs.Code.{code_of, row_code, four_bytes}
use Rattle.ca_term.proofs.Lengths.{row_code_at}
use Rattle.ca_term.proofs.Rows.{size_row, row_again}
use Rattle.ca_order.specs.Patches.{IsTupleCode, HasItems}
use Rattle.ca_order.proofs.Parts.{at_tuple}
use Rattle.ca_order.proofs.Sizes.{four_small}

-- A tuple's code is that of a tuple of its elements.
pub has_items : (row : Row) (code : List ℕ) → IsTupleCode row code → HasItems (elements row) code
has_items row code h = record {
  bounded = subst (λ (x : Row). IsTerm (Tuple x)) (sym (row_again row)) h.bounded;
  code_is = h.code_is ∙ ap (λ (x : Row). code_of (Tuple x)) (sym (row_again row));
}

-- what stands in front of the elements
abbrev pub head : List Tree → List ℕ
head items = 0x40 ∷ four_bytes (length items)

narrow_item : (ts : List Tree) (i : ℕ) → i < length ts → IsNarrowRow (row_of ts) → IsNarrow (get_or ts i Nil)
narrow_item [] i h n = absurd (omega arith)
narrow_item (t ∷ ts) zero h n = n.0
narrow_item (t ∷ ts) (suc i) h n = narrow_item ts i (omega (arith, h)) n.1

-- The code of a tuple of as many terms begins with the same bytes.
pub tuple_code : (items ts : List Tree) → length ts ≡ length items → code_of (Tuple (row_of ts)) ≡ head items ++ row_code (row_of ts)
tuple_code items ts e = at_tuple (Tuple (row_of ts)) ts refl ∙ ap (λ n. (0x40 ∷ four_bytes n) ++ row_code (row_of ts)) e

-- bytes begin with the code of an element, and behind it stand those of the further ones
pub record IsElementAt (items : List Tree) (i : ℕ) (rest element behind : List ℕ) : Type 0 where
  pub narrow : IsNarrow (get_or items i Nil)
  pub code_is : element ≡ code_of (get_or items i Nil)
  pub parts : rest ≡ code_of (get_or items i Nil) ++ behind
  pub behind_is : behind ≡ row_code (row_of (drop (i + 1) items))

module _ (items : List Tree) (code : List ℕ) (h : HasItems items code) where
  -- There are no more elements than a tuple may have.
  pub few_items : length items ≤ MOST_ELEMENTS
  few_items = omega (arith, h.bounded.narrow.0, size_row items)

  -- The elements stand behind five bytes.
  pub five : 5 ≡ length (head items)
  five = omega (arith, ap length (four_small (length items) few_items))

  -- The code is its head and the elements' codes.
  pub parts : code ≡ head items ++ row_code (row_of items)
  parts = h.code_is ∙ tuple_code items items refl

  -- So it has at least five bytes.
  pub head_there : 5 ≤ length code
  head_there = omega (arith, five, ap length parts, length-append (head items) (row_code (row_of items)))

  -- and more than none
  pub not_empty : 1 ≤ length code
  not_empty = omega (arith, head_there)

  -- Behind the head stand the elements' codes.
  pub behind_head : drop 5 code ≡ row_code (row_of items)
  behind_head = (λ i. drop (five i) (parts i)) ∙ drop-append_seam (head items) (row_code (row_of items))

  -- Behind the first byte stand the size and the elements' codes.
  pub inside : drop 1 code ≡ four_bytes (length items) ++ row_code (row_of items)
  inside = ap (drop 1) parts

  -- So there is a size.
  pub size_there : (bytes : List ℕ) → bytes ≡ drop 1 code → (n : ℕ) × (rest : List ℕ) × (n ≤ MOST_ELEMENTS) × (bytes ≡ four_bytes n ++ rest)
  size_there bytes e = (length items, row_code (row_of items), few_items, e ∙ inside)

  narrow_at : (i : ℕ) → i < length items → IsNarrow (get_or items i Nil)
  narrow_at i l = narrow_item items i l h.bounded.narrow.1

  next_is : (i : ℕ) (rest : List ℕ) → i < length items → rest ≡ row_code (row_of (drop i items))
      → rest ≡ code_of (get_or items i Nil) ++ row_code (row_of (drop (i + 1) items))
  next_is i rest l e = e ∙ row_code_at items i Nil l

  -- The codes from an element on begin with a code.
  pub next_there : (i : ℕ) (rest : List ℕ) → i < length items → rest ≡ row_code (row_of (drop i items))
      → (t : Tree) × (end : List ℕ) × IsNarrow t × (rest ≡ code_of t ++ end)
  next_there i rest l e = (get_or items i Nil, row_code (row_of (drop (i + 1) items)), narrow_at i l, next_is i rest l e)

  -- What is cut off there is the element's code.
  pub element_at : (i : ℕ) (rest element behind : List ℕ) → i < length items → rest ≡ row_code (row_of (drop i items))
      → ((t : Tree) (end : List ℕ) → IsNarrow t → rest ≡ code_of t ++ end → (element ≡ code_of t) × (behind ≡ end)) → IsElementAt items i rest element behind
  element_at i rest element behind l e f =
      let t : Tree = get_or items i Nil in
      let end : List ℕ = row_code (row_of (drop (i + 1) items)) in
      let r = next_is i rest l e in
      let g = f t end (narrow_at i l) r in
      record { narrow = narrow_at i l; code_is = g.0; parts = r ∙ ap (λ x. code_of t ++ x) (sym g.1); behind_is = g.1 }
