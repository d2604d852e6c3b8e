-- What the byte code of terms promises.
use Rattle.std.specs.Prelude.{◌≡◌, ℕ, List, [], ◌++◌}
use Rattle.std.specs.Ordering.{nat_cmp}
use Rattle.std.specs.Cmp.Lexicographic.{slice_cmp}
use Rattle.ca_term.specs.Tree.{Tree, IsTerm}
use Rattle.ca_term.specs.Order.{term_cmp}
use Rattle.ca_term.specs.Code.{code_of}

-- No code is a proper prefix of another term's code, and no two terms have one code.
abbrev pub ArePrefixFree : Type 0
ArePrefixFree = (t u : Tree) (rest : List ℕ) → IsTerm t → IsTerm u → code_of t ++ rest ≡ code_of u → (t ≡ u) × (rest ≡ [])

-- The bytes of two codes compare as the terms do.
abbrev pub CompareAsTerms : Type 0
CompareAsTerms = (t u : Tree) → IsTerm t → IsTerm u → slice_cmp nat_cmp (code_of t) (code_of u) ≡ term_cmp t u
