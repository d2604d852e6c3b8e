-- Where an element of a tuple stands in the tuple's code.
use Rattle.std.specs.Prelude.{◌≡◌, ℕ, ◌<◌, ◌+◌, List, ◌∷◌, ◌++◌, length, Option, None, MatchOption}
use Rattle.ca_term.specs.Tree.{Tree, Row, Integer, Atom, Tuple, Nil, Cons, Binary, row_of, size, IsTerm, IsNarrowRow}
use Rattle.ca_term.specs.Code.{code_of, row_code}

-- The key is element `keypos` of the row. Its code begins behind the tag, the four bytes of the size and the codes of the elements before it.
pub record IsKeyPlace (row : Row) (keypos start end : ℕ) : Type 0 where
  pub before : List Tree
  pub key : Tree
  pub after : List Tree
  pub row_is : row ≡ row_of (before ++ key ∷ after)
  pub place : length before + 1 ≡ keypos
  pub start_is : start ≡ 5 + length (row_code (row_of before))
  pub end_is : end ≡ start + length (code_of key)

-- The start and the end of the key's code, or None where the term is no tuple of at least `keypos` elements.
abbrev pub IsKeyParts : Tree → ℕ → Option (ℕ × ℕ) → Type 0
IsKeyParts (Integer n) keypos parts = parts ≡ None
IsKeyParts (Atom text) keypos parts = parts ≡ None
IsKeyParts (Tuple row) keypos parts = MatchOption parts (size row < keypos) (λ p. IsKeyPlace row keypos p.0 p.1)
IsKeyParts Nil keypos parts = parts ≡ None
IsKeyParts (Cons head tail) keypos parts = parts ≡ None
IsKeyParts (Binary bytes) keypos parts = parts ≡ None

-- the code of a tuple, its size and the codes of its elements
pub record IsSplit (code : List ℕ) (count : ℕ) (elements : List ℕ) : Type 0 where
  pub row : Row
  pub bounded : IsTerm (Tuple row)
  pub code_is : code ≡ code_of (Tuple row)
  pub count_is : count ≡ size row
  pub elements_is : elements ≡ row_code row

-- the code of no tuple
abbrev pub IsNoObject : List ℕ → Type 0
IsNoObject code = (row : Row) → code ≡ code_of (Tuple row) → ⊥

-- bytes begin with so many codes, and `end` stands behind them
pub record HasCodes (count : ℕ) (bytes end : List ℕ) : Type 0 where
  pub terms : List Tree
  pub narrow : IsNarrowRow (row_of terms)
  pub many : length terms ≡ count
  pub parts : bytes ≡ row_code (row_of terms) ++ end
