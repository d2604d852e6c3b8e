-- The free rows stand on one another.
use Rattle.std.specs.Prelude.{◌≡◌, ℕ, ◌<◌, ◌≤◌, List}
use Prim.Native.Nat.{zero, suc}
use Rattle.ca_rows.specs.declared.view.Stage.{Stage}
use Rattle.ca_rows.specs.declared.view.Stage.TheVariants.{Idle, Saw, Knew}
use Rattle.ca_rows.specs.Words.{head_tag, head_row, first_of, next_below}

-- What a seat with this number, where so many passes were made, saw of the head: only a pass looks at it, and where that is the only one the head is still
-- as it saw it last.
abbrev pub IsHead : ℕ → List ℕ → ℕ → Stage → Type 0
IsHead made words number Idle = Unit {0}
IsHead made words number (Saw t r) = (0 < number) × (made ≤ 1 → (head_tag words ≡ t) × (head_row words ≡ r))
IsHead made words number (Knew t r x) = (0 < number) × (made ≤ 1 → (head_tag words ≡ t) × (head_row words ≡ r))

-- whose a row is
pub data Owner : Type 0 where
  -- nobody's, with so many free rows below it
  Free : ℕ → Owner
  -- the tree's
  Linked : Owner
  -- that of the seat with this number
  Of : ℕ → Owner

module _ (rows : ℕ) (owner : ℕ → Owner) where
  -- So many free rows stand on one another, and this is the uppermost, or 0.
  abbrev pub IsTop : ℕ → ℕ → Type 0
  IsTop zero row = row ≡ 0
  IsTop (suc n) row = (0 < row) × (row ≤ rows) × (owner row ≡ Free n)

  -- The chain of the free rows begins at the head and goes from each to the one below it.
  pub record IsChain (words : List ℕ) (n : ℕ) : Type 0 where
    pub top : IsTop n (head_row words)
    pub below : (r k : ℕ) → 0 < r → r ≤ rows → owner r ≡ Free k → (k < n) × IsTop k (next_below rows r (first_of words r))
    pub apart : (r q k : ℕ) → 0 < r → r ≤ rows → 0 < q → q ≤ rows → owner r ≡ Free k → owner q ≡ Free k → r ≡ q

  abbrev pub IsFree : ℕ → Type 0
  IsFree r = (k : ℕ) × (0 < r) × (r ≤ rows) × (owner r ≡ Free k)

  -- What a seat saw of the head, and of the first word of the row there, is so as long as the tag is the same: no row was taken since.
  abbrev pub IsStage : List ℕ → Stage → Type 0
  IsStage words Idle = Unit {0}
  IsStage words (Saw t r) = (t ≤ head_tag words) × (t ≡ head_tag words → 0 < r → IsFree r)
  IsStage words (Knew t r x) = (t ≤ head_tag words) × (t ≡ head_tag words → IsFree r × (first_of words r ≡ x))
