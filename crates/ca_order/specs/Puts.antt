-- What a piece of a code that is appended to the room for codes leaves there.
use Rattle.std.specs.Prelude.{◌≡◌, ℕ, ◌+◌, ◌<◌, List, ◌++◌, length, Result, Ok, Err}
use Rattle.ca_term.specs.declared.bounds.TheConstants.{MOST_CODE_BYTES}
use Rattle.ca_order.specs.declared.room.TooLong.{TooLong}

-- the piece behind what was there, or a refusal where both have more bytes than a code may have
abbrev pub Puts : Result (Unit {0}) TooLong → List ℕ → List ℕ → List ℕ → Type 0
Puts (Ok u) old piece new = new ≡ old ++ piece
Puts (Err fault) old piece new = MOST_CODE_BYTES < length old + length piece
