-- A list that has each number from 1 on, up to one, is as long as that at least. It is for callers, that count where the rows are.
use Rattle.std.proofs.Common.{◌≡◌, ◌⊎◌, ℕ, zero, suc, ◌+◌, ◌<◌, ◌≤◌, cond, List, [], ◌∷◌, ◌++◌, length, map, sym, refl, ap, ◌∙◌, ⊎_elim, arith, length-append, ne_eqb}
use mathlib.Core.Logic.{dite}
use mathlib.Core.Option.{some, some-ne-none}
use native.Mathlib.Decide.{ℕ_discrete}
use Rattle.ca_rows.specs.declared.kept.Kept.{Kept}
use Rattle.ca_rows.specs.Kept.{kept_of}
use Rattle.ca_node.specs.Inventory.{but, row_itself}
use Rattle.ca_node.specs.Links.{IsIn}
use Rattle.ca_node.proofs.Listing.{in_front, in_back, in_but, but_shorter}

-- It has each number from 1 on, up to this one.
abbrev pub Covers : ℕ → List ℕ → Type 0
Covers n xs = (r : ℕ) → 0 < r → r ≤ n → IsIn r xs

pub covers_all : (n : ℕ) (xs : List ℕ) → Covers n xs → n ≤ length xs
covers_all zero xs all = omega arith
covers_all (suc n) xs all = let rest = but row_itself (suc n) xs in
    let shorter = but_shorter row_itself (suc n) xs (suc n) (all (suc n) (omega arith) (omega arith)) refl in
    let least = covers_all n (but row_itself (suc n) xs)
    (λ r lo hi. in_but row_itself (suc n) xs r (all r lo (omega arith)) (λ (e : r ≡ suc n). absurd (omega arith))) in
    omega arith

-- So it is of three lists together.
pub three_cover : (n : ℕ) (xs ys zs : List ℕ)
    → ((r : ℕ) → 0 < r → r ≤ n → IsIn r xs ⊎ (IsIn r ys ⊎ IsIn r zs))
    → n ≤ length xs + (length ys + length zs)
three_cover n xs ys zs all = let first = length-append xs (ys ++ zs) in let second = length-append ys zs in
    let least = covers_all n (xs ++ (ys ++ zs)) (λ r lo hi. ⊎_elim (λ i. in_front xs (ys ++ zs) r i)
    (λ o. in_back xs (ys ++ zs) r (⊎_elim (λ i. in_front ys zs r i) (λ i. in_back ys zs r i) o))
    (all r lo hi)) in omega arith

-- A row that is kept is one of the list.
pub kept_row : (ks : List Kept) (r t : ℕ) → kept_of ks r ≡ some t → IsIn r (map (λ (k : Kept). k.row) ks)
kept_row [] r t e = absurd (some-ne-none t (sym e))
kept_row (x ∷ xs) r t e = dite (ℕ_discrete x.row r)
    (λ (same : x.row ≡ r). (0, ap some same))
    (λ ne. let i = kept_row xs r t (sym (ap (λ b. cond b (some x.at) (kept_of xs r)) (ne_eqb x.row r ne)) ∙ e) in
    (suc i.0, i.1))
