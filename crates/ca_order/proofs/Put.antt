-- What is written goes before what is left to write.
use Rattle.std.proofs.Common.{◌≡◌, ℕ, ◌<◌, ◌+◌, List, [], ◌∷◌, ◌++◌, length, arith, ◌∙◌, ap, append_assoc, length-append}
use Rattle.std.specs.Prelude.{Result, Ok, Err, IsErr}
use Rattle.ca_term.specs.declared.bounds.TheConstants.{MOST_CODE_BYTES}
use Rattle.ca_order.specs.declared.room.TooLong.{TooLong}
use Rattle.ca_order.specs.Puts.{Puts}

-- what is written, and what is left, come to what was there and the whole
pub record IsPut (written rest old whole : List ℕ) : Type 0 where
  pub parts : written ++ rest ≡ old ++ whole

-- once more of it is written, less is left
pub put_more : (written rest old whole piece left new : List ℕ) → IsPut written rest old whole → rest ≡ piece ++ left → new ≡ written ++ piece
    → IsPut new left old whole
put_more written rest old whole piece left new p e f = record { parts = rw (f, append_assoc written piece left, ← e) p.parts }

-- once all of it is written
pub put_all : (written rest old whole new : List ℕ) → IsPut written rest old whole → new ≡ written ++ rest → new ≡ old ++ whole
put_all written rest old whole new p e = e ∙ p.parts

-- where a piece of the rest doesn't fit, the whole doesn't
pub put_full : (written rest old whole piece left : List ℕ) → IsPut written rest old whole → rest ≡ piece ++ left
    → MOST_CODE_BYTES < length written + length piece
    → MOST_CODE_BYTES < length old + length whole
put_full written rest old whole piece left p e h =
    omega (arith, ap length p.parts, ap length e, length-append written rest, length-append old whole, length-append piece left)

-- where the rest doesn't fit, the whole doesn't
pub rest_full : (written rest old whole : List ℕ) → IsPut written rest old whole → MOST_CODE_BYTES < length written + length rest
    → MOST_CODE_BYTES < length old + length whole
rest_full written rest old whole p h = omega (arith, ap length p.parts, length-append written rest, length-append old whole)

-- at a last call
pub puts_all : (r : Result (Unit {0}) TooLong) (written rest old whole new : List ℕ) → IsPut written rest old whole → Puts r written rest new
    → Puts r old whole new
puts_all (Ok u) written rest old whole new p h = h ∙ p.parts
puts_all (Err fault) written rest old whole new p h = rest_full written rest old whole p h

-- at a refusal
pub puts_err : (r : Result (Unit {0}) TooLong) (written rest old whole piece left new : List ℕ) → IsErr r → IsPut written rest old whole → rest ≡ piece ++ left
    → MOST_CODE_BYTES < length written + length piece → Puts r old whole new
puts_err (Ok u) written rest old whole piece left new e p f h = cc
puts_err (Err fault) written rest old whole piece left new e p f h = put_full written rest old whole piece left p f h

-- a tag, and then the last piece
pub puts_tagged : (r : Result (Unit {0}) TooLong) (written rest old whole body mid new : List ℕ) (tag : ℕ) → IsPut written rest old whole
    → rest ≡ (tag ∷ []) ++ body → mid ≡ written ++ tag ∷ [] → Puts r mid body new → Puts r old whole new
puts_tagged r written rest old whole body mid new tag p e f h = puts_all r mid body old whole new (put_more written rest old whole (tag ∷ []) body mid p e f) h
