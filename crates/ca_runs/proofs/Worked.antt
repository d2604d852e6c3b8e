-- Worked rows: three bases, of which a range that is active marked the two on the left.
use Rattle.std.proofs.Common.{◌≡◌, ◌⊎◌, ◌==◌, ℕ, [], ◌∷◌, cond, refl, inl, inr, arith}
use Rattle.ca_model.specs.Edges.{Unbounded, Included, Excluded, within}
use Rattle.ca_model.specs.StoreMap.{StoreMap}
use Rattle.ca_runs.specs.Runs.{Mark, Span, Scene, Range, IsRun, IsChain, joined}

abbrev mark : ℕ → ℕ → Mark
mark kind back = record { kind = kind; owner = 1; number = 7; back = back; bound = 9 }

-- Bases 2 and 3 are marked by the range number 7 of pass 1, base 4 isn't.
abbrev marks : ℕ → Mark
marks row = cond (row == 2) (mark 1 0) (cond (row == 3) (mark 1 2) (mark 0 0))

-- Base 2 has the keys below 50, base 3 those from 50 on and below 90, base 4 the others.
abbrev keys : ℕ → Span
keys row = cond (row == 2) (record { low = Unbounded; high = Excluded (50 ∷ []) })
    (cond (row == 3) (record { low = Included (50 ∷ []); high = Excluded (90 ∷ []) }) (record { low = Included (90 ∷ []); high = Unbounded }))

abbrev scene : Scene
scene = record {
  is_base = λ row. (row ≡ 2) ⊎ ((row ≡ 3) ⊎ (row ≡ 4));
  keys = keys;
  mark = marks;
  is_active = λ pass number. (pass ≡ 1) × (number ≡ 7);
  has_begun = λ pass number. (pass ≡ 1) × (number ≡ 7);
}

-- The range wants the keys from 20 on, and row 9 says up to where.
abbrev range : Range
range = record { pass = 1; number = 7; edge = Included (20 ∷ []); top = 9 }

-- Both are its run, the last one first.
is_run : IsRun scene range (3 ∷ 2 ∷ [])
is_run = (
  record { is_base = inr (inl refl); some_row = omega arith; marked = (refl, refl, refl); ends = refl },
  refl,
  (50 ∷ [], refl, refl),
  (record { is_base = inl refl; some_row = omega arith; marked = (refl, refl, refl); ends = refl }, refl, λ key from. refl),
)

-- The second one alone is none: it names the first one.
no_run : IsRun scene range (3 ∷ []) → ⊥
no_run run = let two_is_none : 2 ≡ 0 = run.1 in absurd (omega (arith, two_is_none))

-- What each base has, and what the chain from base 3 has.
abbrev has : ℕ → StoreMap
has row = cond (row == 2) (((10 ∷ []), (1 ∷ [])) ∷ ((30 ∷ []), (2 ∷ [])) ∷ []) (((60 ∷ []), (3 ∷ [])) ∷ [])

abbrev map : StoreMap
map = ((10 ∷ []), (1 ∷ [])) ∷ ((30 ∷ []), (2 ∷ [])) ∷ ((60 ∷ []), (3 ∷ [])) ∷ ((95 ∷ []), (4 ∷ [])) ∷ []

has_chain : IsChain marks 3 (3 ∷ 2 ∷ [])
has_chain = (refl, omega arith, (refl, omega arith, refl))

has_part : joined has (3 ∷ 2 ∷ []) ≡ within Unbounded (Excluded (90 ∷ [])) map
has_part = refl
