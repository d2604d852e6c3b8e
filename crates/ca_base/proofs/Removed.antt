-- Lists from which an element was removed.
use Rattle.std.proofs.Common.{◌≡◌, ◌≢◌, ℕ, zero, suc, List, [], ◌∷◌, map, take, drop, sym, refl, ap, ◌∙◌, arith}
use Rattle.std.proofs.lemmas.List.{map-append, take-map, drop-map}
use Rattle.std.specs.List.{remove}
use mathlib.Core.Option.{some, some-ne-none}
use lib.ListN.{get_elem?}
use Rattle.ca_node.specs.Links.{IsIn}

-- where an element of a list stood from which one was removed
abbrev pub past : ℕ → ℕ → ℕ
past zero k = suc k
past (suc at) zero = zero
past (suc at) (suc k) = suc (past at k)

pub past_other : (at k : ℕ) → past at k ≢ at
past_other zero k e = omega arith
past_other (suc at) zero e = omega arith
past_other (suc at) (suc k) e = past_other at k (omega arith)

pub at_removed : {A : Type 0} (xs : List A) (at k : ℕ)
    → get_elem? (remove xs at) k ≡ get_elem? xs (past at k)
at_removed [] zero k = refl
at_removed [] (suc at) zero = refl
at_removed [] (suc at) (suc k) = refl
at_removed (x ∷ xs) zero k = refl
at_removed (x ∷ xs) (suc at) zero = refl
at_removed (x ∷ xs) (suc at) (suc k) = at_removed xs at k

-- What stood in another place is in the list still.
pub still_in : (xs : List ℕ) (at i r : ℕ) → i ≢ at → get_elem? xs i ≡ some r → IsIn r (remove xs at)
still_in [] at i r n e = absurd (some-ne-none r (sym e))
still_in (x ∷ xs) zero zero r n e = absurd (n refl)
still_in (x ∷ xs) zero (suc i) r n e = (i, e)
still_in (x ∷ xs) (suc at) zero r n e = (0, e)
still_in (x ∷ xs) (suc at) (suc i) r n e = let rest = still_in xs at i r (λ f. n (ap suc f)) e in
    (suc rest.0, rest.1)

pub map_removed : {A B : Type 0} (f : A → B) (xs : List A) (at : ℕ)
    → map f (remove xs at) ≡ remove (map f xs) at
map_removed f xs at = map-append f (take at xs) (drop (suc at) xs)
    ∙ rw (take-map f at xs, drop-map f (suc at) xs) refl
