-- What a step makes of what ranges see.
use Rattle.std.specs.Prelude.{◌≡◌, ◌≢◌, ◌⊎◌, ℕ, ◌<◌}
use Rattle.ca_runs.specs.Runs.{Scene, IsMarked, AreNeighbours, BeginsBefore, Ends}

-- No range is begun or ended.
pub record AreAlike (s s' : Scene) : Type 0 where
  pub active : (pass number : ℕ) → s.is_active pass number → s'.is_active pass number
  pub was_active : (pass number : ℕ) → s'.is_active pass number → s.is_active pass number
  pub begun : (pass number : ℕ) → s.has_begun pass number → s'.has_begun pass number

-- No range is begun or ended, and what active ones marked stays as it is. A base that is marked now has the mark of a range that was begun; where that is
-- active, it was marked before.
pub record Stays (s s' : Scene) : Type 0 where
  pub alike : AreAlike s s'
  pub stay : (pass number row : ℕ) → s.is_active pass number → s.is_base row → IsMarked s row pass number
      → s'.is_base row × (s'.keys row ≡ s.keys row) × (s'.mark row ≡ s.mark row)
  pub begun : (pass number row : ℕ) → s'.is_base row → IsMarked s' row pass number → s'.has_begun pass number
  pub were : (pass number row : ℕ) → s'.is_base row → IsMarked s' row pass number → s.is_active pass number → s.is_base row × IsMarked s row pass number

-- A base takes the place of another one, which no active range marked.
pub record Replaces (s s' : Scene) (old new : ℕ) : Type 0 where
  pub alike : AreAlike s s'
  pub was : s.is_base old
  pub is : s'.is_base new
  pub is_new : ¬ s.is_base new
  pub some_row : 0 < new
  pub others : (row : ℕ) → s.is_base row → row ≢ old → s'.is_base row
  pub from_where : (row : ℕ) → s'.is_base row → (row ≡ new) ⊎ (s.is_base row × (row ≢ old))
  pub same_keys : s'.keys new ≡ s.keys old
  pub keys : (row : ℕ) → s.is_base row → row ≢ old → s'.keys row ≡ s.keys row
  pub marks : (row : ℕ) → s.is_base row → s'.mark row ≡ s.mark row
  pub free : (pass number : ℕ) → s.is_active pass number → ¬ IsMarked s old pass number

-- One pass begins a range or ends one; bases and marks stay.
pub record Turns (s s' : Scene) (pass : ℕ) : Type 0 where
  pub bases : (row : ℕ) → s.is_base row → s'.is_base row
  pub were : (row : ℕ) → s'.is_base row → s.is_base row
  pub keys : (row : ℕ) → s'.keys row ≡ s.keys row
  pub marks : (row : ℕ) → s.is_base row → s'.mark row ≡ s.mark row
  pub others : (other number : ℕ) → other ≢ pass → s'.is_active other number → s.is_active other number
  pub begun : (other number : ℕ) → s.has_begun other number → s'.has_begun other number

-- The base that takes a place is the first one of a range's run: nothing had its mark before.
pub record IsFirst (s s' : Scene) (ends : ℕ → Ends) (pass number old new : ℕ) : Type 0 where
  pub none : (row : ℕ) → s.is_base row → ¬ IsMarked s row pass number
  pub back : (s'.mark new).back ≡ 0
  pub before : BeginsBefore (s.keys old).low (ends pass).edge
  pub top : (s'.mark new).bound ≡ (ends pass).top

-- It is the next one behind a base of the run.
pub record IsNext (s s' : Scene) (pass number old new left : ℕ) : Type 0 where
  pub is_base : s.is_base left
  pub marked : IsMarked s left pass number
  pub back : (s'.mark new).back ≡ left
  pub beside : AreNeighbours (s.keys left) (s.keys old)
  pub top : (s'.mark new).bound ≡ (s.mark left).bound
