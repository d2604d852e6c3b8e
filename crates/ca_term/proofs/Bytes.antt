-- How lists of bytes compare.
use Rattle.std.proofs.Common.{◌≡◌, ℕ, ◌<◌, List, [], ◌∷◌, ◌++◌, length, arith, refl, sym}
use Rattle.std.specs.declared.cmp.Ordering.{Ordering}
use Rattle.std.specs.declared.cmp.Ordering.TheVariants.{Less, Equal, Greater}
use Rattle.std.specs.Ordering.{ordering_then, nat_cmp}
use Rattle.std.specs.Cmp.Lexicographic.{slice_cmp}
use Rattle.std.specs.FinMap.{nat_cmp-IsAntisymmetric, slice_cmp-IsAntisymmetric}
use Rattle.ca_term.proofs.Numbers.{less, greater, same}

abbrev pub bytes_cmp : List ℕ → List ℕ → Ordering
bytes_cmp xs ys = slice_cmp nat_cmp xs ys

-- Orderings one after another may be bracketed either way.
pub then_assoc : (a b c : Ordering) → ordering_then (ordering_then a b) c ≡ ordering_then a (ordering_then b c)
then_assoc Less b c = refl
then_assoc Equal b c = refl
then_assoc Greater b c = refl

-- A lower first byte makes bytes lower.
pub head_less : (x y : ℕ) (xs ys : List ℕ) → x < y → bytes_cmp (x ∷ xs) (y ∷ ys) ≡ Less
head_less x y xs ys h = rw (less x y h)

-- A higher first byte makes bytes higher.
pub head_greater : (x y : ℕ) (xs ys : List ℕ) → y < x → bytes_cmp (x ∷ xs) (y ∷ ys) ≡ Greater
head_greater x y xs ys h = rw (greater x y h)

-- two texts of one length, each with something behind it
pub seam : (p q xs ys : List ℕ) → length p ≡ length q → bytes_cmp (p ++ xs) (q ++ ys) ≡ ordering_then (bytes_cmp p q) (bytes_cmp xs ys)
seam [] [] xs ys e = refl
seam [] (y ∷ q) xs ys e = absurd (omega arith)
seam (x ∷ p) [] xs ys e = absurd (omega arith)
seam (x ∷ p) (y ∷ q) xs ys e = rw (seam p q xs ys (omega arith)) (sym (then_assoc (nat_cmp x y) (bytes_cmp p q) (bytes_cmp xs ys)))

-- Bytes are equal to themselves.
pub bytes_itself : (xs : List ℕ) → bytes_cmp xs xs ≡ Equal
bytes_itself [] = refl
bytes_itself (x ∷ xs) = rw (same x) (bytes_itself xs)

-- Only no bytes are equal to no bytes.
pub nothing_behind : (z : List ℕ) → bytes_cmp z [] ≡ Equal → z ≡ []
nothing_behind [] e = refl
nothing_behind (x ∷ z) e = cc

-- Two orderings one after another are equal where both are.
pub then_both : (o p : Ordering) → ordering_then o p ≡ Equal → (o ≡ Equal) × (p ≡ Equal)
then_both Less p e = cc
then_both Equal p e = (refl, e)
then_both Greater p e = cc

-- Bytes that compare as equal are the same.
pub same_bytes : (xs ys : List ℕ) → bytes_cmp xs ys ≡ Equal → xs ≡ ys
same_bytes xs ys e = slice_cmp-IsAntisymmetric nat_cmp-IsAntisymmetric xs ys e
