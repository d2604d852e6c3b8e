-- Seats that keep no row which they may hold again.
use Rattle.std.proofs.Common.{◌≡◌, ℕ, ◌+◌, ◌<◌, cond, false, List, [], ◌∷◌, refl, ap, ◌∙◌}
use borrow.Author.Tests.{lt-leb}
use mathlib.Core.Option.{Option, some, none}
use Rattle.ca_rows.specs.declared.view.Claim.{Claim}
use Rattle.ca_rows.specs.declared.view.Claim.TheVariants.{Holds, Lends, Unlinked, Keeps}
use Rattle.ca_rows.specs.declared.view.Claimed.{Claimed}
use Rattle.ca_rows.specs.Claims.{claim_of, may_reuse, none_old}

is_young : (o : Option Claim) (told : ℕ) → ((t : ℕ) → o ≡ some (Keeps t) → told < t + 2)
    → may_reuse o told ≡ false
is_young none told young = refl
is_young (some (Holds its)) told young = refl
is_young (some Lends) told young = refl
is_young (some Unlinked) told young = refl
is_young (some (Keeps t)) told young = lt-leb (t + 2) told (young t refl)

-- All rows that are kept are too young.
none_among : (all xs : List Claimed) (told : ℕ)
    → ((r t : ℕ) → claim_of all r ≡ some (Keeps t) → told < t + 2) → none_old all xs told ≡ 1
none_among all [] told young = refl
none_among all (x ∷ xs) told young =
    ap (λ b. cond b 0 (none_old all xs told)) (is_young (claim_of all x.row) told (young x.row))
    ∙ none_among all xs told young

pub none_is_old : (claims : List Claimed) (told : ℕ)
    → ((r t : ℕ) → claim_of claims r ≡ some (Keeps t) → told < t + 2)
    → none_old claims claims told ≡ 1
none_is_old claims told young = none_among claims claims told young
