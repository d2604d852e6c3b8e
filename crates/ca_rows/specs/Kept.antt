-- The rows that a pass keeps, until nobody can have a note on them.
use Rattle.std.specs.Prelude.{◌≡◌, ◌≢◌, ◌==◌, ◌⊎◌, ℕ, ◌+◌, ◌-◌, ◌<◌, ◌≤◌, cond, List, [], ◌∷◌, ◌++◌, length, slice_index_or, take, drop, Vec, vec_capacity}
use Rattle.std.specs.Global.{Global}
use Rattle.std.specs.declared.option.Option.{Option as Answer}
use Rattle.std.specs.declared.option.Option.TheVariants.{None, Some}
use mathlib.Core.Option.{Option, some, none}
use lib.ListN.{get_elem?}
use Rattle.ca_rows.specs.declared.kept.Kept.{Kept}
use Rattle.ca_rows.specs.declared.sizes.Sizes.{Sizes}
use Rattle.ca_rows.specs.declared.view.Claim.{Claim}
use Rattle.ca_rows.specs.declared.view.Claim.TheVariants.{Holds, Lends, Unlinked, Keeps}
use Rattle.ca_rows.specs.declared.view.Claimed.{Claimed}
use Rattle.ca_rows.specs.declared.view.View.{View}
use Rattle.ca_rows.specs.Claims.{claim_of}

-- what stands at no place of a list
abbrev pub nobody : Kept
nobody = record { row = 0; at = 0; form = 0 }

-- the epoch that a row was retired at, where it is in the list
abbrev pub kept_of : List Kept → ℕ → Option ℕ
kept_of [] row = none
kept_of (x ∷ xs) row = cond (x.row == row) (some x.at) (kept_of xs row)

-- No row is in the list twice.
abbrev pub AreApart : List Kept → Type 0
AreApart [] = Unit {0}
AreApart (x ∷ xs) = (kept_of xs x.row ≡ none) × AreApart xs

-- No row was retired later than one behind it.
abbrev pub Rises : List Kept → Type 0
Rises [] = Unit {0}
Rises (x ∷ xs) = ((r t : ℕ) → kept_of xs r ≡ some t → x.at ≤ t) × Rises xs

-- The list is that of the rows that these claims keep, each once, from the one that was retired first.
pub record AreListed (rows : ℕ) (claims : List Claimed) (ks : List Kept) : Type 0 where
  pub apart : AreApart ks
  pub rising : Rises ks
  pub are_listed : (r t : ℕ) → claim_of claims r ≡ some (Keeps t) → kept_of ks r ≡ some t
  pub are_claimed : (r t : ℕ) → kept_of ks r ≡ some t → (0 < r) × (r ≤ rows) × (claim_of claims r ≡ some (Keeps t))

-- The first row was retired two epochs before the last one, or there is none.
abbrev pub HasAged : List Kept → Type 0
HasAged ks = (length ks ≡ 0) ⊎ ((slice_index_or ks 0 nobody).at + 2 ≤ (slice_index_or ks (length ks - 1) nobody).at)

-- Of the rows of a list that were retired two epochs before this one, or earlier, the one at this place is the first of this form; or none of them has the
-- form, and it is the first of them all.
pub record IsOldest (epoch like : ℕ) (ks : List Kept) (at : ℕ) : Type 0 where
  pub inside : at < length ks
  pub old : (slice_index_or ks at nobody).at + 2 ≤ epoch
  pub first : ((slice_index_or ks at nobody).form ≡ like) × ((i : ℕ) → i < at → (slice_index_or ks i nobody).form ≢ like)
      ⊎ (at ≡ 0) × ((i : ℕ) → i < length ks → (slice_index_or ks i nobody).at + 2 ≤ epoch → (slice_index_or ks i nobody).form ≢ like)

-- Each row of the list was retired less than two epochs before this one.
abbrev pub AreYoung : ℕ → List Kept → Type 0
AreYoung epoch ks = (i : ℕ) → i < length ks → epoch < (slice_index_or ks i nobody).at + 2

-- This is the place of that row, if there is one.
abbrev pub IsChosen : Answer ℕ → ℕ → ℕ → List Kept → Type 0
IsChosen None epoch like ks = AreYoung epoch ks
IsChosen (Some at) epoch like ks = IsOldest epoch like ks at

-- So this row was chosen from the list, and these are left, in their order.
abbrev pub IsTakenOut : ℕ → ℕ → ℕ → List Kept → List Kept → Type 0
IsTakenOut epoch like row ks left = (at : ℕ) × IsOldest epoch like ks at × ((slice_index_or ks at nobody).row ≡ row) × (left ≡ take at ks ++ drop (at + 1) ks)

-- So is this one, and all rows have room in it.
pub record AreKept (rows : ℕ) (claims : List Claimed) (kept : Vec Kept Global) : Type 0 where
  pub are : AreListed rows claims kept.items
  pub room : rows ≤ vec_capacity kept

-- Of the list only the rows before a place and those from an end on are kept still: the ones in
-- between were given back, and stand there yet.
pub record AreKeptBut (rows at end : ℕ) (claims : List Claimed)
    (kept : Vec Kept Global) : Type 0 where
  pub are : AreListed rows claims (take at kept.items ++ drop end kept.items)
  pub room : rows ≤ vec_capacity kept

module _ {U : Type 0} (lent : List ℕ → ℕ → Type 0) (fact : Sizes → ℕ → List ℕ → List U → Type 0) (z : Sizes) (id : ℕ) (d : View U) (row : ℕ) where
  -- No operation names the row, as far as the seat knows.
  abbrev pub IsOver : Type 0
  IsOver = (made : ℕ) (words : List ℕ) (uppers : List U) → fact z made words uppers → get_elem? uppers id ≡ some d.upper → ¬ lent words row

  abbrev pub IsReleased : Claim → Type 0
  IsReleased (Holds its) = Unit {0}
  IsReleased Lends = IsOver
  IsReleased Unlinked = Unit {0}
  IsReleased (Keeps t) = ⊥

  -- The seat may retire the row: it holds it, unlinked it, or lent it to an operation that is finished, and doesn't keep it yet.
  abbrev pub MayRetire : Type 0
  MayRetire = (c : Claim) × (claim_of d.claims row ≡ some c) × IsReleased c
