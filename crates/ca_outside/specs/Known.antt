-- What contracts know of a shelf's contents and a sink's bytes, where these are told, and of a count of faults.
use Rattle.std.specs.Prelude.{◌≡◌, ◌⊎◌, ℕ, ◌-◌, ◌^◌, ◌<◌, List, ◌++◌, length, Option, None, Some}

-- a list that is still told grew by these; an object may stop telling, and never begins to
abbrev pub Grows : {A : Type 0} → Option (List A) → Option (List A) → List A → Type 0
Grows None None more = Unit {0}
Grows None (Some new) more = ⊥
Grows (Some old) None more = Unit {0}
Grows (Some old) (Some new) more = new ≡ old ++ more

-- what a shelf tells of a name: nothing, that it has no file of this name, or the bytes of the file
pub data Content : Type 0 where
  Untold : Content
  Missing : Content
  Holds : List ℕ → Content

-- the content of these bytes, where there are any
abbrev pub content_or : Content → Option (List ℕ) → Content
content_or other None = other
content_or other (Some bytes) = Holds bytes

-- the content may be this one
abbrev pub Tells : Content → List ℕ → Type 0
Tells Untold bytes = Unit {0}
Tells Missing bytes = ⊥
Tells (Holds content) bytes = content ≡ bytes

-- the content may have more bytes than there is room
abbrev pub IsOver : ℕ → Content → Type 0
IsOver room Untold = Unit {0}
IsOver room Missing = ⊥
IsOver room (Holds content) = room < length content

-- A count of faults has risen: it is larger now, or it stood and stands at the largest number of 64 bits.
abbrev pub HasRisen : ℕ → ℕ → Type 0
HasRisen before now = (before < now) ⊎ ((before ≡ 2 ^ 64 - 1) × (now ≡ 2 ^ 64 - 1))
