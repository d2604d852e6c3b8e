-- Zero bytes, and bytes escaped without their end.
use Rattle.std.specs.Prelude.{ℕ, ◌≡◌, ◌<◌, ◌==◌, List, [], ◌∷◌, length, take, slice_index_or, if◌then◌else◌}

abbrev pub HasNoZero : List ℕ → Type 0
HasNoZero [] = Unit {0}
HasNoZero (b ∷ bs) = (0 < b) × HasNoZero bs

-- The first zero byte stands at this place.
pub record IsZeroAt (bytes : List ℕ) (at : ℕ) : Type 0 where
  pub within : at < length bytes
  pub zero_is : slice_index_or bytes at 0 ≡ 0
  pub run : HasNoZero (take at bytes)

-- bytes with each 00 written as 00 FF
unfoldable pub opened : List ℕ → List ℕ
opened [] = []
opened (b ∷ bs) = if b == 0 then 0 ∷ 0xff ∷ opened bs else b ∷ opened bs
