-- How far bytes can begin a word of a language.
use Rattle.std.specs.Prelude.{◌≡◌, ℕ, ◌≤◌, ◌<◌, ◌+◌, List, ◌∷◌, ◌++◌, length, take}

-- The first `at` bytes begin a word, and no word begins with one byte more of them.
pub record IsLongestStart (L : List ℕ → Type 0) (bytes : List ℕ) (at : ℕ) : Type 0 where
  pub in_range : at ≤ length bytes
  pub rest : List ℕ
  pub begins : L (take at bytes ++ rest)
  pub no_longer : at < length bytes → (rest : List ℕ) → L (take (at + 1) bytes ++ rest) → ⊥

-- The same in front of the bytes `behind`, where what stands before them is no whole word.
pub record IsStuck (L : List ℕ → Type 0) (bytes behind : List ℕ) : Type 0 where
  pub done : List ℕ
  pub parts : bytes ≡ done ++ behind
  pub next : ℕ
  pub rest : List ℕ
  pub begins : L (done ++ next ∷ rest)
  pub no_longer : (b : ℕ) (more rest : List ℕ) → behind ≡ b ∷ more → L (done ++ b ∷ rest) → ⊥

-- the words of M are what may follow u in L
pub record IsRest (L : List ℕ → Type 0) (u : List ℕ) (M : List ℕ → Type 0) : Type 0 where
  pub into : (x : List ℕ) → L (u ++ x) → M x
  pub back : (x : List ℕ) → M x → L (u ++ x)
