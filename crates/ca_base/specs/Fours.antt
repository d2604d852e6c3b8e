-- The bytes of four words, one behind the other.
use Rattle.std.specs.Prelude.{ℕ, ◌+◌, List, [], ◌∷◌, get_or}
use Rattle.std.specs.Int.{to_be_bytes, w64}

-- those of the word at a place and of the three behind it
abbrev pub four_of : List ℕ → ℕ → List (List ℕ)
four_of words at = to_be_bytes w64 (get_or words at 0) ∷ to_be_bytes w64 (get_or words (at + 1) 0) ∷ to_be_bytes w64 (get_or words (at + 2) 0)
    ∷ to_be_bytes w64 (get_or words (at + 3) 0) ∷ []
