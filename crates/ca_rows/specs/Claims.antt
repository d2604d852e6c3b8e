-- Which rows are a seat's, and why.
use Rattle.std.specs.Prelude.{◌==◌, ℕ, ◌+◌, cond, Bool, false, leb, List, [], ◌∷◌}
use mathlib.Core.Option.{Option, some, none}
use lib.ListN.{get_elem?}
use Rattle.ca_rows.specs.declared.view.Claim.{Claim}
use Rattle.ca_rows.specs.declared.view.Claim.TheVariants.{Holds, Lends, Unlinked, Keeps}
use Rattle.ca_rows.specs.declared.view.Claimed.{Claimed}
use Rattle.ca_rows.specs.declared.view.View.{View}

-- why the row is the seat's, if it is
abbrev pub claim_of : List Claimed → ℕ → Option Claim
claim_of [] row = none
claim_of (x ∷ xs) row = cond (x.row == row) (some x.claim) (claim_of xs row)

-- the claims on the other rows
abbrev pub dropped : ℕ → List Claimed → List Claimed
dropped row [] = []
dropped row (x ∷ xs) = cond (x.row == row) (dropped row xs) (x ∷ dropped row xs)

-- the claims, with this one on the row
abbrev pub claimed : ℕ → Claim → List Claimed → List Claimed
claimed row c xs = record { row = row; claim = c } ∷ dropped row xs

-- 1 of a claim by which a row is held, or was unlinked and isn't kept yet
abbrev pub is_held : Claim → ℕ
is_held (Holds its) = 1
is_held Lends = 0
is_held Unlinked = 1
is_held (Keeps t) = 0

-- how many rows are held, or were unlinked and aren't kept yet
abbrev pub held_count : List Claimed → ℕ
held_count [] = 0
held_count (x ∷ xs) = is_held x.claim + held_count xs

-- whether the seat that keeps a row by this claim may hold it again, where it announced this epoch
abbrev pub may_reuse : Option Claim → ℕ → Bool
may_reuse none told = false
may_reuse (some (Holds its)) told = false
may_reuse (some Lends) told = false
may_reuse (some Unlinked) told = false
may_reuse (some (Keeps t)) told = leb (t + 2) told

-- 0 where it may hold one of these rows again, else 1
abbrev pub none_old : List Claimed → List Claimed → ℕ → ℕ
none_old all [] told = 1
none_old all (x ∷ xs) told = cond (may_reuse (claim_of all x.row) told) 0 (none_old all xs told)

module _ {U : Type 0} where
  abbrev pub claim_from : Option (View U) → ℕ → Option Claim
  claim_from none row = none
  claim_from (some d) row = claim_of d.claims row

  -- why the row is that of the seat with this number, if it is
  abbrev pub claim_at : List (View U) → ℕ → ℕ → Option Claim
  claim_at views seat row = claim_from (get_elem? views seat) row
