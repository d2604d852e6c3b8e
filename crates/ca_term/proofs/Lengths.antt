-- How long a code is, part by part.
use Rattle.std.proofs.Common.{◌≡◌, ℕ, ◌≤◌, ◌<◌, ◌+◌, ◌-◌, ◌/◌, ◌^◌, ℤ, pos, negsuc, List, ◌++◌, length, drop, get_or, arith, add-one, drop-cons, refl, ◌∙◌, ap, length-append}
use Rattle.std.proofs.lemmas.List.{drop_all}
use Rattle.std.specs.Int.Count.{count_leading_zeros}
use Rattle.ca_term.specs.Code.{magnitude, code_of, row_code, int_code, escaped, four_bytes, digits}
use Rattle.ca_term.specs.Tree.{Tree, Row, Integer, Atom, Tuple, Nil, Cons, Binary, row_of, size}
use Rattle.ca_term.proofs.Numbers.{length_high_first}
use Rattle.ca_term.proofs.Digits.{length_digits, length_complement}

-- An integer's code is as long as `int_code` says.
pub length_int : (n : ℤ) → length (code_of (Integer n)) ≡ length (int_code n)
unfolding code_of
length_int n = refl

-- The length of an integer's code follows from the leading zeros of its magnitude.
pub length_int_code : (n : ℤ) → magnitude n < 2 ^ 64 → length (int_code n) ≡ 1 + (71 - count_leading_zeros 64 (magnitude n)) / 8
unfolding int_code
length_int_code (pos n) h = omega (arith, length_digits n h)
length_int_code (negsuc m) h = omega (arith, length_digits m h, length_complement (digits m))

-- An atom's code is a tag and its escaped text.
pub length_atom : (text : List ℕ) → length (code_of (Atom text)) ≡ 1 + length (escaped text)
unfolding code_of
length_atom text = omega arith

-- A binary's code is a tag and its escaped bytes.
pub length_binary : (bytes : List ℕ) → length (code_of (Binary bytes)) ≡ 1 + length (escaped bytes)
unfolding code_of
length_binary bytes = omega arith

-- The code of the empty list is one byte.
pub length_nil : length (code_of Nil) ≡ 1
unfolding code_of
length_nil = refl

-- A list cell's code is a tag, a head's code and a tail's code.
pub length_cons : (h t : Tree) → length (code_of (Cons h t)) ≡ 1 + (length (code_of h) + length (code_of t))
unfolding code_of
length_cons h t = omega (arith, length-append (code_of h) (code_of t))

length_four : (n : ℕ) → length (four_bytes n) ≡ 4
unfolding four_bytes
length_four n = length_high_first 4 n

-- A tuple's code is a tag, four bytes and its elements' codes.
pub length_tuple : (row : Row) → length (code_of (Tuple row)) ≡ 5 + length (row_code row)
unfolding code_of
length_tuple row = omega (arith, length-append (four_bytes (size row)) (row_code row), length_four (size row))

-- The codes of the items from a place on begin with the code of the item there.
pub row_code_at : (ts : List Tree) (i : ℕ) (t : Tree) → i < length ts
    → row_code (row_of (drop i ts)) ≡ code_of (get_or ts i t) ++ row_code (row_of (drop (i + 1) ts))
unfolding code_of
row_code_at ts i t h = rw (add-one, drop-cons ts i t)

-- The length of the items' codes from a place on begins with that of the item there.
pub length_row : (ts : List Tree) (i : ℕ) (t : Tree) → i < length ts
    → length (row_code (row_of (drop i ts))) ≡ length (code_of (get_or ts i t)) + length (row_code (row_of (drop (i + 1) ts)))
length_row ts i t h = ap length (row_code_at ts i t h) ∙ length-append (code_of (get_or ts i t)) (row_code (row_of (drop (i + 1) ts)))

-- Behind all items stand no codes.
pub length_no_row : (ts : List Tree) (i : ℕ) → length ts ≤ i → length (row_code (row_of (drop i ts))) ≡ 0
unfolding code_of
length_no_row ts i h = rw (drop_all i ts h)

-- how long the code of each kind of term is
pub ruleset code_lengths = (length_int, length_atom, length_binary, length_nil, length_cons, length_tuple)
