-- The byte code of terms: a function from terms to bytes.
-- Codes compare byte by byte as the terms do, so the tag of a kind rises with the kind's rank.
use Rattle.std.specs.Prelude.{ℕ, ◌+◌, ◌-◌, ◌==◌, ℤ, pos, negsuc, List, [], ◌∷◌, ◌++◌, length, map, if◌then◌else◌}
use Rattle.std.specs.Int.{to_be_bytes, w32, w64}
use Rattle.ca_term.specs.Tree.{Tree, Row, Integer, Atom, Tuple, Nil, Cons, Binary, Ends, More, size}

-- without the leading zero bytes
unfoldable pub trim : List ℕ → List ℕ
trim [] = []
trim (b ∷ bs) = if b == 0 then trim bs else b ∷ bs

-- the bytes of a number of 64 bits, the highest first, without leading zero bytes
unfoldable pub digits : ℕ → List ℕ
digits n = trim (to_be_bytes w64 n)

-- each bit of each byte turned
unfoldable pub complement : List ℕ → List ℕ
complement bytes = map (λ b. 255 - b) bytes

-- bytes with each 00 written as 00 FF, then 00 00
unfoldable pub escaped : List ℕ → List ℕ
escaped [] = 0 ∷ 0 ∷ []
escaped (b ∷ bs) = if b == 0 then 0 ∷ 0xff ∷ escaped bs else b ∷ escaped bs

-- n of n, and m of -m - 1
abbrev pub magnitude : ℤ → ℕ
magnitude (pos n) = n
magnitude (negsuc m) = m

-- 20 + L and the L bytes of n; for -m - 1, 1F - L and the complement of the L bytes of m
unfoldable pub int_code : ℤ → List ℕ
int_code (pos n) = (0x20 + length (digits n)) ∷ digits n
int_code (negsuc m) = (0x1f - length (digits m)) ∷ complement (digits m)

-- a number in four bytes, the highest first
unfoldable pub four_bytes : ℕ → List ℕ
four_bytes n = to_be_bytes w32 n

unfoldable mutual
  pub code_of : Tree → List ℕ
  code_of (Integer n) = int_code n
  code_of (Atom text) = 0x30 ∷ escaped text
  code_of (Tuple row) = 0x40 ∷ four_bytes (size row) ++ row_code row
  code_of Nil = 0x60 ∷ []
  code_of (Cons head tail) = 0x70 ∷ code_of head ++ code_of tail
  code_of (Binary bytes) = 0x80 ∷ escaped bytes

  -- the elements' codes, one after another
  pub row_code : Row → List ℕ
  row_code Ends = []
  row_code (More t row) = code_of t ++ row_code row
