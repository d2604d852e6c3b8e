-- What reads of a file have consumed, against its content.
use Rattle.std.proofs.Common.{ℕ, ◌<◌, List, ◌++◌, length, append_assoc, append-nil, length-append, arith, refl, None, Some}
use Rattle.std.specs.Prelude.{Option}
use Rattle.std.specs.Io.KnownBytes.{Consumes, IsAtEnd}
use Rattle.ca_outside.specs.Known.{Tells, IsOver, Untold, content_or}

-- one read after another
pub consumes_more : (a b c : Option (List ℕ)) (xs ys : List ℕ) → Consumes a b xs → Consumes b c ys → Consumes a c (xs ++ ys)
consumes_more None b c xs ys g h = tt
consumes_more (Some x) None c xs ys g h = absurd g
consumes_more (Some x) (Some y) None xs ys g h = absurd h
consumes_more (Some x) (Some y) (Some z) xs ys g h = rw (g, h, append_assoc) refl

-- at the end, what was consumed is the content
pub told_at_end : (a b : Option (List ℕ)) (xs : List ℕ) → Consumes a b xs → IsAtEnd b → Tells (content_or Untold a) xs
told_at_end None b xs g h = tt
told_at_end (Some x) None xs g h = absurd g
told_at_end (Some x) (Some y) xs g h = rw (g, h, append-nil) refl

-- a content has no fewer bytes than were consumed
pub is_over : (a b : Option (List ℕ)) (xs : List ℕ) (room : ℕ) → Consumes a b xs → room < length xs → IsOver room (content_or Untold a)
is_over None b xs room g h = tt
is_over (Some x) None xs room g h = absurd g
is_over (Some x) (Some y) xs room g h = rw g (omega (arith, h, length-append xs y))
