-- Rows of a list, one after another.
use Rattle.std.proofs.Common.{◌≡◌, ◌≢◌, ℕ, zero, suc, ◌+◌, ◌<◌, ◌≤◌, List, [], ◌∷◌, length, drop, get_or, Result, Ok, Err, refl, sym, subst, ⊎_elim, arith}
use Rattle.std.proofs.Math.Seq.{drop-cons}
use Rattle.ca_node.specs.Laws.{in_nothing}
use Rattle.ca_node.specs.Links.{IsIn, AreApart}
use Rattle.ca_node.proofs.Looking.{in_more}
use Rattle.ca_base.specs.Putting.{gone}

-- What is in a list of one row is that row.
pub is_one : (r row : ℕ) → IsIn r (row ∷ []) → row ≡ r
is_one r row i = ⊎_elim (λ (e : row ≡ r). e)
    (λ (j : IsIn r []). absurd (in_nothing r [] refl j)) (in_more row r [] i)

-- The row at a place isn't behind it once more.
rest_apart : (rows : List ℕ) (at : ℕ) → at < length rows → AreApart rows
    → ¬ IsIn (get_or rows at 0) (drop (suc at) rows)
rest_apart [] at l a = absurd (omega arith)
rest_apart (x ∷ rows) zero l a = a.0
rest_apart (x ∷ rows) (suc at) l a = rest_apart rows at (omega arith) a.1

-- What holds of the rows from a place on holds of the row there and those behind it.
pub from_place : (Are : List ℕ → Type 0) (rows : List ℕ) (at : ℕ) → at < length rows → AreApart rows
    → Are (drop at rows)
    → (¬ IsIn (get_or rows at 0) (drop (at + 1) rows)) × Are (get_or rows at 0 ∷ drop (at + 1) rows)
from_place Are rows at l apart are = let next : suc at ≡ at + 1 = omega arith in
    subst (λ (k : ℕ). (¬ IsIn (get_or rows at 0) (drop k rows))
    × Are (get_or rows at 0 ∷ drop k rows)) next
    (rest_apart rows at l apart, subst Are (drop-cons rows at 0 l) are)

-- Two rows, and the row that goes, if one does.
pub two_apart : (a b : ℕ) → a ≢ b → AreApart (a ∷ b ∷ [])
two_apart a b n = (
  λ i. ⊎_elim (λ (e : b ≡ a). n (sym e))
      (λ (j : IsIn a []). in_nothing a [] refl j) (in_more b a [] i),
  (in_nothing b [] refl, tt),
)

pub gone_apart : (place : Result ℕ ℕ) (these : List ℕ) → AreApart (gone place these)
gone_apart (Ok at) these = (in_nothing (get_or these at 0) [] refl, tt)
gone_apart (Err at) these = tt

pub gone_few : (place : Result ℕ ℕ) (these : List ℕ) → length (gone place these) ≤ 1
gone_few (Ok at) these = omega arith
gone_few (Err at) these = omega arith
