-- What comes of replacing an element.
use Rattle.std.proofs.Common.{◌≡◌, ℕ, zero, suc, ◌≤◌, ◌<◌, ◌-◌, true, false, List, [], length, set, arith, refl, ⊎_elim, ◌^◌, ℤ, pos, negsuc, ◌≤ℤ◌, nat_abs}
use Rattle.std.specs.Prelude.{nat_le, IsTrue, Some, None}
use Rattle.std.specs.Int.{FitsUnsignedBits}
use Rattle.std.proofs.lemmas.Int.{ints}
use Rattle.std.proofs.lemmas.Bool.{cases_lt}
use Rattle.std.proofs.lemmas.Bool.Decides.{nat_tests}
use Rattle.ca_term.specs.declared.bounds.TheConstants.{MOST_ELEMENTS}
use Rattle.ca_term.specs.Tree.{Tree, Row, Tuple, elements}
use Rattle.ca_term.specs.Updates.{is_open, place_of, object_of, update_of_element}
use Rattle.ca_order.specs.declared.patched.Patched.{Patched}
use Rattle.ca_order.specs.declared.patched.Patched.TheVariants as answer
use Rattle.ca_order.specs.Patches.{IsPatched}

-- A position that may be changed is at least 1.
pub open_least : (keypos : ℕ) (p : ℤ) → IsTrue (is_open keypos p) → pos 1 ≤ℤ p
open_least keypos (pos zero) h = cc
open_least keypos (pos (suc n)) h = omega (arith, ints)
open_least keypos (negsuc m) h = cc

-- Where there is no element, the argument is bad.
pub no_element : (row : Row) (p : ℤ) (value : Tree) (into : List ℕ) → place_of (length (elements row)) p ≡ None → into ≡ []
    → IsPatched (update_of_element (Tuple row) p value) answer.BadArg into
no_element row p value into e f = rw e (record { answer_is = refl; code_is = f })

-- Where there is one, the new object has another in its place.
pub element_there : (row : Row) (p : ℤ) (value : Tree) (at : ℕ) (result : Patched) (into : List ℕ) → place_of (length (elements row)) p ≡ Some at
    → IsPatched (object_of (set (elements row) at value)) result into → IsPatched (update_of_element (Tuple row) p value) result into
element_there row p value at result into e h = rw e h

-- ---- places

-- A position from 1 to the number of elements has a place.
pub there : (size position : ℕ) (p : ℤ) → p ≡ pos position → 1 ≤ position → position ≤ size → place_of size p ≡ Some (position - 1)
there size position p e h k =
    let a : nat_le 1 position ≡ true = grind (arith, nat_tests, h) in
    let b : nat_le position size ≡ true = grind (arith, nat_tests, k) in
    rw (e, a, b) refl

-- A position past the elements has none.
pub past : (size position : ℕ) (p : ℤ) → p ≡ pos position → size < position → place_of size p ≡ None
past size zero p e h = absurd (omega (arith, h))
past size (suc i) p e h =
    let a : nat_le 1 (suc i) ≡ true = grind (arith, nat_tests) in
    let b : nat_le (suc i) size ≡ false = grind (arith, nat_tests, h) in
    rw (e, a, b) refl

-- So has one that has more than 32 bits.
pub too_large : (p : ℤ) (size : ℕ) → (FitsUnsignedBits 32 p → ⊥) → size ≤ MOST_ELEMENTS → place_of size p ≡ None
too_large (pos n) size f m =
    let h : size < n = ⊎_elim (λ l. absurd (f l)) (λ l. omega (arith, l, m)) (cases_lt n (2 ^ 32)) in
    past size n (pos n) refl h
too_large (negsuc k) size f m = refl

-- A position of at least 1 is a natural number.
pub natural : (p : ℤ) → pos 1 ≤ℤ p → p ≡ pos (nat_abs p)
natural (pos n) h = refl
natural (negsuc k) h = absurd (omega (arith, ints, h))
