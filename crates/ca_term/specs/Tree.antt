-- A term as a tree of six kinds, its measures, and the bounds that every term keeps.
-- Source: the kinds of the Erlang reference manual's "Data Types" that this project has.
use Rattle.std.specs.Prelude.{ℕ, ℤ, Bool, true, false, ◌+◌, ◌<◌, ◌≤◌, FitsSigned, max, List, [], ◌∷◌, length, slice_index}
use Rattle.std.specs.Int.{w64}
use Rattle.std.specs.Str.{chars, IsUtf8}
use Rattle.ca_term.specs.declared.bounds.TheConstants.{MOST_CODE_POINTS, MOST_ELEMENTS, MOST_DEPTH}

mutual
  -- a term
  pub data Tree : Type 0 where
    Integer : ℤ → Tree
    -- the text in UTF-8
    Atom : List ℕ → Tree
    Tuple : Row → Tree
    -- the empty list
    Nil : Tree
    -- a list cell: head and tail
    Cons : Tree → Tree → Tree
    -- bytes
    Binary : List ℕ → Tree

  -- the elements of a tuple, from the left
  pub data Row : Type 0 where
    Ends : Row
    More : Tree → Row → Row

-- a row from a list of terms, and the list of a row's terms
abbrev pub row_of : List Tree → Row
row_of [] = Ends
row_of (t ∷ ts) = More t (row_of ts)

abbrev pub elements : Row → List Tree
elements Ends = []
elements (More t row) = t ∷ elements row

-- the list of these terms with this tail
abbrev pub list_of : List Tree → Tree → Tree
list_of [] tail = tail
list_of (t ∷ ts) tail = Cons t (list_of ts tail)

-- how many elements
abbrev pub size : Row → ℕ
size Ends = 0
size (More t row) = 1 + size row

-- whether a term is a list cell
abbrev pub is_cell : Tree → Bool
is_cell (Integer n) = false
is_cell (Atom text) = false
is_cell (Tuple row) = false
is_cell Nil = false
is_cell (Cons head tail) = true
is_cell (Binary bytes) = false

abbrev mutual
  -- how deep a term is: an element or a head stands one deeper than its tuple or list, and a tail as deep as its list
  pub depth : Tree → ℕ
  depth (Integer n) = 1
  depth (Atom text) = 1
  depth (Tuple row) = 1 + row_depth row
  depth Nil = 1
  depth (Cons head tail) = max (1 + depth head) (depth tail)
  depth (Binary bytes) = 1

  pub row_depth : Row → ℕ
  row_depth Ends = 0
  row_depth (More t row) = max (depth t) (row_depth row)

abbrev mutual
  -- how many nodes a term has
  pub nodes : Tree → ℕ
  nodes (Integer n) = 1
  nodes (Atom text) = 1
  nodes (Tuple row) = 1 + row_nodes row
  nodes Nil = 1
  nodes (Cons head tail) = 1 + (nodes head + nodes tail)
  nodes (Binary bytes) = 1

  pub row_nodes : Row → ℕ
  row_nodes Ends = 0
  row_nodes (More t row) = nodes t + row_nodes row

-- each is a byte
abbrev pub AreBytes : List ℕ → Type 0
AreBytes bytes = (k : ℕ) → slice_index bytes k < 256

abbrev mutual
  -- Integers have 64 bits, atoms are texts of so many code points at most, and tuples have so many elements at most, at every level.
  pub IsNarrow : Tree → Type 0
  IsNarrow (Integer n) = FitsSigned w64 n
  IsNarrow (Atom text) = IsUtf8 text × (length (chars text) ≤ MOST_CODE_POINTS)
  IsNarrow (Tuple row) = (size row ≤ MOST_ELEMENTS) × IsNarrowRow row
  IsNarrow Nil = Unit {0}
  IsNarrow (Cons head tail) = IsNarrow head × IsNarrow tail
  IsNarrow (Binary bytes) = AreBytes bytes

  pub IsNarrowRow : Row → Type 0
  IsNarrowRow Ends = Unit {0}
  IsNarrowRow (More t row) = IsNarrow t × IsNarrowRow row

-- what every term keeps; a part of a term is never deeper than the term
pub record IsTerm (t : Tree) : Type 0 where
  pub shallow : depth t ≤ MOST_DEPTH
  pub narrow : IsNarrow t

abbrev pub AreTerms : List Tree → Type 0
AreTerms [] = Unit {0}
AreTerms (t ∷ ts) = IsTerm t × AreTerms ts
