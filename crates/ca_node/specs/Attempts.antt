-- Attempts to join the two bases under a route: how far one is, by the route's join word. That has the number of the last attempt, in units of 4, and its
-- state: 0 it is finished, 1 it is prepared, 2 it is secured.
use Rattle.std.specs.Prelude.{◌≡◌, ◌⊎◌, ℕ, ◌+◌, ◌*◌, ◌%◌, ◌<◌, ◌≤◌, List, slice_index}
use Rattle.ca_rows.specs.Layout.{row_words}

-- the route's join word
abbrev pub join_of : List ℕ → ℕ → ℕ
join_of words route = slice_index words (row_words * route + 3)

-- It has one of these states.
abbrev pub IsJoinWord : List ℕ → ℕ → Type 0
IsJoinWord words route = join_of words route % 4 < 3

-- The attempt was begun, whatever became of it.
abbrev pub HasAttempt : List ℕ → ℕ → ℕ → Type 0
HasAttempt words route attempt = 4 * attempt ≤ join_of words route

-- It is prepared: its bases are being marked, and whoever is in its way gives it up.
abbrev pub IsPrepared : List ℕ → ℕ → ℕ → Type 0
IsPrepared words route attempt = join_of words route ≡ 4 * attempt + 1

-- It is secured: both its bases are marked, and nothing takes their places any more.
abbrev pub IsSecured : List ℕ → ℕ → ℕ → Type 0
IsSecured words route attempt = join_of words route ≡ 4 * attempt + 2

abbrev pub IsUnderWay : List ℕ → ℕ → ℕ → Type 0
IsUnderWay words route attempt = IsPrepared words route attempt ⊎ IsSecured words route attempt

-- It is finished: it was given up, or a later one was begun.
abbrev pub IsFinished : List ℕ → ℕ → ℕ → Type 0
IsFinished words route attempt = (join_of words route ≡ 4 * attempt) ⊎ (4 * attempt + 4 ≤ join_of words route)

-- A step on the join word of a route, or none: what was begun was begun, what is under way was so or is begun by the step, what is finished stays finished, and
-- what is secured stays so.
pub record JoinGoesOn (words others : List ℕ) (route : ℕ) : Type 0 where
  pub begun : (attempt : ℕ) → HasAttempt words route attempt → HasAttempt others route attempt
  pub under_way : (attempt : ℕ) → HasAttempt words route attempt → IsUnderWay others route attempt → IsUnderWay words route attempt
  pub prepared : (attempt : ℕ) → HasAttempt words route attempt → IsPrepared others route attempt → IsPrepared words route attempt
  pub finished : (attempt : ℕ) → IsFinished words route attempt → IsFinished others route attempt
  pub secured : (attempt : ℕ) → IsSecured words route attempt → IsSecured others route attempt
