-- An object that fits has a key that fits.
use Rattle.std.proofs.Common.{◌≡◌, ℕ, zero, suc, ◌+◌, ◌-◌, ◌≤◌, true, length, length-append, arith, nat_le, refl}
use Rattle.std.specs.Prelude.{slice_index_or}
use Rattle.std.proofs.lemmas.Bool.Decides.{nat_tests}
use Rattle.ca_term.specs.Tree.{Tree, Row, Integer, Atom, Tuple, Nil, Cons, Binary, Ends, More, elements, size}
use Rattle.ca_term.specs.Code.{code_of, row_code, four_bytes}
use Rattle.ca_term.specs.Object.{key_of, fits}
use Rattle.ca_term.specs.declared.bounds.TheConstants.{MOST_CODE_BYTES}

-- An element of a row is no longer than all of them and a byte.
element_shorter : (row : Row) (n : ℕ) → length (code_of (slice_index_or (elements row) n Nil)) ≤ 1 + length (row_code row)
unfolding code_of row_code
element_shorter Ends n = omega arith
element_shorter (More t row) zero = omega (arith, length-append (code_of t) (row_code row))
element_shorter (More t row) (suc n) = omega (arith, length-append (code_of t) (row_code row), element_shorter row n)

-- An element of a tuple is no longer than the tuple.
key_shorter : (p : ℕ) (row : Row) → length (code_of (key_of p (Tuple row))) ≤ length (code_of (Tuple row))
unfolding code_of
key_shorter p row = omega (arith, length-append (four_bytes (size row)) (row_code row), element_shorter row (p - 1))

pub nil_fits : fits Nil ≡ true
unfolding code_of
nil_fits = refl

pub key_fits : (p : ℕ) (o : Tree) → fits o ≡ true → fits (key_of p o) ≡ true
key_fits p (Integer n) h = nil_fits
key_fits p (Atom text) h = nil_fits
key_fits p (Tuple row) h =
    let shorter = key_shorter p row in
    let whole : nat_le (length (code_of (Tuple row))) MOST_CODE_BYTES ≡ true = h in
    let l : nat_le (length (code_of (key_of p (Tuple row)))) MOST_CODE_BYTES ≡ true = grind (arith, nat_tests) in
    l
key_fits p Nil h = nil_fits
key_fits p (Cons head tail) h = nil_fits
key_fits p (Binary bytes) h = nil_fits
