-- Codes, part by part.
use Rattle.std.proofs.Common.{◌≡◌, ℕ, ◌≤◌, ◌<◌, ◌+◌, List, [], ◌∷◌, ◌++◌, length, drop, get_or, arith, sym, ◌∙◌, ap, subst}
use Rattle.std.proofs.lemmas.List.{drop_all}
use Rattle.ca_term.specs.declared.bounds.TheConstants.{MOST_ELEMENTS}
use Rattle.ca_term.proofs.Lengths.{row_code_at}
use Rattle.ca_term.proofs.Rows.{size_row}
use Rattle.ca_term.specs.Code.{code_of, escaped, int_code, four_bytes, row_code}
use Rattle.ca_term.specs.Tree.{Tree, Integer, Atom, Tuple, Nil, Cons, Binary, row_of, nodes, row_nodes, depth, IsTerm, IsNarrow}
use Rattle.ca_order.specs.Reads.{BeginsWithTerm}
use Rattle.std.specs.Prelude.{ℤ}
use Rattle.std.specs.Int.{to_be_bytes, w32}

-- ---- the parts of a term that a kind tells

module _ (t : Tree) where
  -- The code of a term that is an integer.
  pub at_int : (n : ℤ) → Integer n ≡ t → code_of t ≡ int_code n
  unfolding code_of
  at_int n e = ap code_of (sym e)

  -- The code of a term that is an atom.
  pub at_atom : (text : List ℕ) → Atom text ≡ t → code_of t ≡ (0x30 ∷ []) ++ escaped text
  unfolding code_of
  at_atom text e = ap code_of (sym e)

  -- The code of a term that is a tuple.
  pub at_tuple : (ts : List Tree) → Tuple (row_of ts) ≡ t → code_of t ≡ (0x40 ∷ []) ++ (four_bytes (length ts) ++ row_code (row_of ts))
  unfolding code_of
  at_tuple ts e = ap code_of (sym e) ∙ ap (λ n. (0x40 ∷ []) ++ (four_bytes n ++ row_code (row_of ts))) (size_row ts)

  -- The code of a term that is the empty list.
  pub at_nil : Nil ≡ t → code_of t ≡ 0x60 ∷ []
  unfolding code_of
  at_nil e = ap code_of (sym e)

  -- The code of a term that is a list cell.
  pub at_cons : (head tail : Tree) → Cons head tail ≡ t → code_of t ≡ (0x70 ∷ []) ++ (code_of head ++ code_of tail)
  unfolding code_of
  at_cons head tail e = ap code_of (sym e)

  -- The code of a term that is a binary.
  pub at_binary : (bytes : List ℕ) → Binary bytes ≡ t → code_of t ≡ (0x80 ∷ []) ++ escaped bytes
  unfolding code_of
  at_binary bytes e = ap code_of (sym e)

  -- the elements of a tuple have fewer nodes than it, and are no more than a tuple may have
  pub tuple_falls : (ts : List Tree) → Tuple (row_of ts) ≡ t → 1 + row_nodes (row_of ts) ≡ nodes t
  tuple_falls ts e = ap nodes e

  -- A head and a tail have fewer nodes than their list cell.
  pub cons_falls : (head tail : Tree) → Cons head tail ≡ t → 1 + (nodes head + nodes tail) ≡ nodes t
  cons_falls head tail e = ap nodes e

  -- A term that is a tuple has no more elements than a tuple may have.
  pub tuple_fits : (ts : List Tree) → Tuple (row_of ts) ≡ t → IsTerm t → length ts ≤ MOST_ELEMENTS
  tuple_fits ts e h = let n : IsNarrow (Tuple (row_of ts)) = subst IsNarrow (sym e) h.narrow in omega (arith, n.0, size_row ts)

-- The bytes of a number of 32 bits are its four bytes.
pub size_bytes : (n : ℕ) (bytes : List ℕ) → bytes ≡ to_be_bytes w32 n → bytes ≡ four_bytes n
unfolding four_bytes
size_bytes n bytes e = e

-- an item, and the items behind it
pub at_item : (ts : List Tree) (i : ℕ) (t : Tree) → i < length ts → t ≡ get_or ts i t
    → row_code (row_of (drop i ts)) ≡ code_of t ++ row_code (row_of (drop (i + 1) ts))
at_item ts i t h e = row_code_at ts i t h ∙ ap (λ u. code_of u ++ row_code (row_of (drop (i + 1) ts))) (sym e)

-- Behind all items stand no codes.
pub no_item : (ts : List Tree) (i : ℕ) → length ts ≤ i → row_code (row_of (drop i ts)) ≡ []
unfolding row_code
no_item ts i h = rw (drop_all i ts h)

-- Bytes begin with a term where they begin with its code.
pub begins_as : (levels : ℕ) (bytes rest : List ℕ) (t u : Tree) → t ≡ u → bytes ≡ code_of u ++ rest → depth u ≤ levels → IsTerm u
    → BeginsWithTerm levels bytes t rest
begins_as levels bytes rest t u e p d b = subst (λ (x : Tree). BeginsWithTerm levels bytes x rest) (sym e) (record { parts = p; shallow = d; bounded = b })
