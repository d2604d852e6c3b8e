-- The account of the rows: what holds of one row, by whose it is.
use Rattle.std.specs.Prelude.{◌≡◌, ◌≢◌, ◌⊎◌, ℕ, ◌≤◌, List, length}
use mathlib.Core.Option.{Option, some, none}
use Rattle.ca_rows.specs.declared.view.Claim.{Claim}
use Rattle.ca_rows.specs.declared.view.Claim.TheVariants.{Holds, Lends, Unlinked, Keeps}
use Rattle.ca_rows.specs.Chain.{Owner, Free, Linked, Of}
use Rattle.ca_rows.specs.Words.{epoch, Spells}
use Rattle.ca_rows.specs.Layout.{row_words}

-- IsLinked, IsLent: of the words. Noted m r: a pass that was pinned at the epoch m has a note on the row r. claim j r: why the row r is the seat j's
module _ (words : List ℕ) (IsLinked IsLent : ℕ → Type 0) (Noted : ℕ → ℕ → Type 0) where
  -- Nobody can reach the row, and nobody reads it.
  abbrev pub IsAlone : ℕ → Type 0
  IsAlone r = ¬ IsLinked r × ((m : ℕ) → ¬ Noted m r)

  -- The row was unlinked at this epoch: who reads it was pinned no later.
  abbrev pub IsOut : ℕ → ℕ → Type 0
  IsOut r age = ¬ IsLinked r × (age ≤ epoch words) × ((m : ℕ) → Noted m r → m ≤ age)

  abbrev pub IsClaim : ℕ → Claim → Type 0
  IsClaim r (Holds its) = (length its ≡ row_words) × Spells words r its × IsAlone r
  IsClaim r Lends = IsLent r ⊎ ((age : ℕ) × IsOut r age)
  IsClaim r Unlinked = (age : ℕ) × IsOut r age
  IsClaim r (Keeps t) = (age : ℕ) × (age ≤ t) × (t ≤ epoch words) × IsOut r age

  -- A row is free, linked, or one seat's and no other's.
  abbrev pub IsRow : (ℕ → ℕ → Option Claim) → ℕ → Owner → Type 0
  IsRow claim r (Free k) = IsAlone r × ((j : ℕ) → claim j r ≡ none)
  IsRow claim r Linked = IsLinked r × ¬ IsLent r × ((j : ℕ) → claim j r ≡ none)
  IsRow claim r (Of i) = ((c : Claim) × (claim i r ≡ some c) × IsClaim r c) × ((j : ℕ) → j ≢ i → claim j r ≡ none)
