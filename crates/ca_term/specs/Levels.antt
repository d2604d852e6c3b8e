-- Codes of terms of at most so many levels.
use Rattle.std.specs.Prelude.{◌≡◌, ℕ, ◌≤◌, List}
use Rattle.ca_term.specs.Tree.{Tree, Row, size, depth, row_depth, IsNarrow, IsNarrowRow}
use Rattle.ca_term.specs.Code.{code_of, row_code}

-- the code of a term of at most so many levels
pub record HasTerm (levels : ℕ) (bytes : List ℕ) : Type 0 where
  pub term : Tree
  pub shallow : depth term ≤ levels
  pub narrow : IsNarrow term
  pub code_is : bytes ≡ code_of term

-- the codes of so many terms of at most so many levels
pub record HasRow (levels count : ℕ) (bytes : List ℕ) : Type 0 where
  pub row : Row
  pub shallow : row_depth row ≤ levels
  pub narrow : IsNarrowRow row
  pub many : size row ≡ count
  pub code_is : bytes ≡ row_code row
