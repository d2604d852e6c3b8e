-- The order of terms: first by kind, then by the rule of the kind.
-- Source: the Erlang reference manual, "Term Comparisons".
use Rattle.std.specs.Prelude.{ℕ}
use Rattle.std.specs.declared.cmp.Ordering.{Ordering}
use Rattle.std.specs.declared.cmp.Ordering.TheVariants.{Less, Equal, Greater}
use Rattle.std.specs.Ordering.{ordering_then, nat_cmp, int_cmp}
use Rattle.std.specs.Cmp.Lexicographic.{slice_cmp}
use Rattle.ca_term.specs.Tree.{Tree, Row, Integer, Atom, Tuple, Nil, Cons, Binary, Ends, More, size}

-- number < atom < tuple < nil < list < binary
abbrev pub rank : Tree → ℕ
rank (Integer n) = 0
rank (Atom text) = 1
rank (Tuple row) = 2
rank Nil = 3
rank (Cons head tail) = 4
rank (Binary bytes) = 5

abbrev mutual
  -- Numbers by value; atoms and binaries byte by byte (in UTF-8 that is code point by code point), a proper prefix first;
  -- tuples by size, then element by element; lists by head, then by tail.
  pub term_cmp : Tree → Tree → Ordering
  term_cmp (Integer m) (Integer n) = int_cmp m n
  term_cmp (Atom a) (Atom b) = slice_cmp nat_cmp a b
  term_cmp (Tuple r) (Tuple s) = ordering_then (nat_cmp (size r) (size s)) (row_cmp r s)
  term_cmp Nil Nil = Equal
  term_cmp (Cons h t) (Cons k u) = ordering_then (term_cmp h k) (term_cmp t u)
  term_cmp (Binary a) (Binary b) = slice_cmp nat_cmp a b
  term_cmp a b = nat_cmp (rank a) (rank b)

  -- element by element from the left
  pub row_cmp : Row → Row → Ordering
  row_cmp Ends Ends = Equal
  row_cmp Ends (More u s) = Less
  row_cmp (More t r) Ends = Greater
  row_cmp (More t r) (More u s) = ordering_then (term_cmp t u) (row_cmp r s)
