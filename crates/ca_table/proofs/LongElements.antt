-- An element whose code is too long makes an object too long.
use Rattle.std.proofs.Common.{◌≡◌, ℕ, zero, suc, ◌≤◌, ◌<◌, ◌+◌, ℤ, false, List, [], ◌∷◌, ◌++◌, length, set, arith, refl, ap, length-append, None, Some}
use Rattle.std.specs.Prelude.{Err}
use Rattle.std.proofs.lemmas.Bool.Decides.{nat_tests}
use Rattle.ca_term.specs.declared.bounds.TheConstants.{MOST_CODE_BYTES}
use Rattle.ca_term.specs.Tree.{Tree, Row, Tuple, row_of, elements}
use Rattle.ca_term.specs.Code.{code_of, row_code}
use Rattle.ca_term.specs.Object.{fits}
use Rattle.ca_term.specs.Updates.{BadArgument, TooLarge, place_of}
use Rattle.ca_order.proofs.Items.{head, tuple_code}
use Rattle.ca_order.proofs.Skipped.{row_app}
use Rattle.ca_table.specs.Renewed.{by_element}

more_long : (v : Tree) (items : List Tree) → length (code_of v) + length (row_code (row_of items)) ≤ length (row_code (row_of (v ∷ items)))
more_long v items =
    let rest = code_of v ++ row_code (row_of items) in
    let whole : length (row_code (row_of (v ∷ items))) ≡ length (row_code (row_of []) ++ rest) = ap length (row_app [] v items) in
    omega (arith, whole, length-append (row_code (row_of [])) rest, length-append (code_of v) (row_code (row_of items)))

row_long : (items : List Tree) (at : ℕ) (v : Tree) → at < length items → length (code_of v) ≤ length (row_code (row_of (set items at v)))
row_long [] at v h = absurd (omega (arith, h))
row_long (x ∷ items) zero v h =
    let l : length (code_of v) + length (row_code (row_of items)) ≤ length (row_code (row_of (set (x ∷ items) 0 v))) = more_long v items in
    omega (arith, l)
row_long (x ∷ items) (suc at) v h =
    let rest = set items at v in
    let l : length (code_of x) + length (row_code (row_of rest)) ≤ length (row_code (row_of (set (x ∷ items) (suc at) v))) = more_long x rest in
    omega (arith, l, row_long items at v (omega (arith, h)))

too_long : (items : List Tree) (at : ℕ) (v : Tree) → at < length items → MOST_CODE_BYTES < length (code_of v)
    → fits (Tuple (row_of (set items at v))) ≡ false
too_long items at v h long =
    let new = set items at v in
    let whole : MOST_CODE_BYTES < length (code_of (Tuple (row_of new))) =
    omega (arith, long, row_long items at v h, ap length (tuple_code new new refl), length-append (head new) (row_code (row_of new))) in
    grind (arith, nat_tests, whole)

-- Where there is no such element, the argument is bad.
pub no_place : (row : Row) (v : Tree) (position : ℤ) → place_of (length (elements row)) position ≡ None
    → by_element position v (Tuple row) ≡ Err BadArgument
no_place row v position e = rw e refl

-- Where there is one, the new object would be too long.
pub no_room : (row : Row) (v : Tree) (position : ℤ) (at : ℕ) → place_of (length (elements row)) position ≡ Some at → at < length (elements row)
    → MOST_CODE_BYTES < length (code_of v) → by_element position v (Tuple row) ≡ Err TooLarge
no_room row v position at e h long = let f = too_long (elements row) at v h long in rw (e, f) refl
