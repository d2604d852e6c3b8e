-- How many rows are held once rows of a list are linked, or unlinked by the seat.
use Rattle.std.proofs.Common.{◌≡◌, ℕ, ◌+◌, ◌≤◌, List, [], ◌∷◌, length, refl, ◌∙◌, arith, le_refl}
use mathlib.Core.Option.{some}
use Rattle.ca_rows.specs.declared.view.Claim.TheVariants.{Holds}
use Rattle.ca_rows.specs.declared.view.Claimed.{Claimed}
use Rattle.ca_rows.specs.Claims.{claim_of, held_count}
use Rattle.ca_rows.proofs.HeldCount.{dropped_no_more, dropped_one_less}
use Rattle.ca_node.specs.Links.{IsIn, AreApart}
use Rattle.ca_node.specs.Told.{given, taken_out}
use Rattle.ca_node.proofs.Members.{in_rest, given_else}

-- Where rows are linked, no more are held.
pub given_no_more : (rows : List ℕ) (claims : List Claimed)
    → held_count (given rows claims) ≤ held_count claims
given_no_more [] claims = le_refl (held_count claims)
given_no_more (row ∷ rows) claims = let one = dropped_no_more row (given rows claims) in
    let rest = given_no_more rows claims in omega arith

-- Where they were held, and are apart, each is one less.
pub given_fewer : (rows : List ℕ) (claims : List Claimed) → AreApart rows
    → ((row : ℕ) → IsIn row rows → (its : List ℕ) × (claim_of claims row ≡ some (Holds its)))
    → held_count (given rows claims) + length rows ≤ held_count claims
given_fewer [] claims apart held = omega arith
given_fewer (row ∷ rows) claims apart held = let first = held row (0, refl) in
    let rest = given_fewer rows claims apart.1 (λ r i. held r (in_rest r row rows i)) in
    let one = dropped_one_less row (given rows claims) (Holds first.0) refl
    (given_else rows claims row apart.0 ∙ first.1) in omega arith

-- Where rows are unlinked by the seat, each is one more, at most.
pub taken_out_more : (rows : List ℕ) (claims : List Claimed)
    → held_count (taken_out rows claims) ≤ held_count claims + length rows
taken_out_more [] claims = omega arith
taken_out_more (row ∷ rows) claims = let one = dropped_no_more row (taken_out rows claims) in
    let rest = taken_out_more rows claims in omega arith
