-- How many rows are held, as claims come and go.
use Rattle.std.proofs.Common.{◌≡◌, ◌≢◌, ℕ, suc, ◌+◌, ◌≤◌, cond, List, [], ◌∷◌, sym, refl, ap, ◌∙◌, arith, le_refl, eq-eqb, ne_eqb}
use mathlib.Core.Logic.{dite}
use mathlib.Core.Option.{some, none, some-injective, some-ne-none}
use native.Mathlib.Decide.{ℕ_discrete}
use Rattle.ca_rows.specs.declared.view.Claim.{Claim}
use Rattle.ca_rows.specs.declared.view.Claim.TheVariants.{Holds}
use Rattle.ca_rows.specs.declared.view.Claimed.{Claimed}
use Rattle.ca_rows.specs.Claims.{claim_of, claimed, dropped, is_held, held_count}

-- The first claim of a list, and those behind it.
dropped_first : (x : Claimed) (xs : List Claimed) (q : ℕ) → x.row ≡ q
    → dropped q (x ∷ xs) ≡ dropped q xs
dropped_first x xs q e = ap (λ b. cond b (dropped q xs) (x ∷ dropped q xs)) (eq-eqb x.row q e)

dropped_behind : (x : Claimed) (xs : List Claimed) (q : ℕ) → x.row ≢ q
    → dropped q (x ∷ xs) ≡ x ∷ dropped q xs
dropped_behind x xs q n = ap (λ b. cond b (dropped q xs) (x ∷ dropped q xs)) (ne_eqb x.row q n)

claim_first : (x : Claimed) (xs : List Claimed) (q : ℕ) → x.row ≡ q
    → claim_of (x ∷ xs) q ≡ some x.claim
claim_first x xs q e = ap (λ b. cond b (some x.claim) (claim_of xs q)) (eq-eqb x.row q e)

claim_behind : (x : Claimed) (xs : List Claimed) (q : ℕ) → x.row ≢ q
    → claim_of (x ∷ xs) q ≡ claim_of xs q
claim_behind x xs q n = ap (λ b. cond b (some x.claim) (claim_of xs q)) (ne_eqb x.row q n)

-- Without a row, no more are held.
pub dropped_no_more : (q : ℕ) (xs : List Claimed) → held_count (dropped q xs) ≤ held_count xs
dropped_no_more q [] = le_refl 0
dropped_no_more q (x ∷ xs) = let rest = dropped_no_more q xs in dite (ℕ_discrete x.row q)
    (λ e. let now = ap held_count (dropped_first x xs q e) in omega arith)
    (λ n. let now = ap held_count (dropped_behind x xs q n) in omega arith)

-- Without a row that was held, one less is.
pub dropped_one_less : (q : ℕ) (xs : List Claimed) (c : Claim) → is_held c ≡ 1
    → claim_of xs q ≡ some c → suc (held_count (dropped q xs)) ≤ held_count xs
dropped_one_less q [] c counts held = absurd (some-ne-none c (sym held))
dropped_one_less q (x ∷ xs) c counts held = dite (ℕ_discrete x.row q)
    (λ e. let now = ap held_count (dropped_first x xs q e) in let rest = dropped_no_more q xs in
    let one = ap is_held (some-injective x.claim c (sym (claim_first x xs q e) ∙ held)) ∙ counts in
    omega arith)
    (λ n. let now = ap held_count (dropped_behind x xs q n) in
    let rest = dropped_one_less q xs c counts (sym (claim_behind x xs q n) ∙ held) in omega arith)

-- Without a row that wasn't claimed, as many are.
pub dropped_as_many : (q : ℕ) (xs : List Claimed) → claim_of xs q ≡ none
    → held_count (dropped q xs) ≡ held_count xs
dropped_as_many q [] free = refl
dropped_as_many q (x ∷ xs) free = dite (ℕ_discrete x.row q)
    (λ e. absurd (some-ne-none x.claim (sym (claim_first x xs q e) ∙ free)))
    (λ n. let now = ap held_count (dropped_behind x xs q n) in
    let rest = dropped_as_many q xs (sym (claim_behind x xs q n) ∙ free) in omega arith)

-- One row more is held, at most, where one is held now, and exactly one where it wasn't claimed.
pub held_one_more : (q : ℕ) (its : List ℕ) (xs : List Claimed)
    → held_count (claimed q (Holds its) xs) ≤ held_count xs + 1
held_one_more q its xs = let rest = dropped_no_more q xs in omega arith

pub taken_one_more : (q : ℕ) (its : List ℕ) (xs : List Claimed) → claim_of xs q ≡ none
    → held_count (claimed q (Holds its) xs) ≡ held_count xs + 1
taken_one_more q its xs free = let rest = dropped_as_many q xs free in omega arith

-- A held row is held with other words: no more are.
pub written_no_more : (q : ℕ) (its its' : List ℕ) (xs : List Claimed)
    → claim_of xs q ≡ some (Holds its)
    → held_count (claimed q (Holds its') xs) ≤ held_count xs
written_no_more q its its' xs held = let rest = dropped_one_less q xs (Holds its) refl held in
    omega arith

-- A row gets a claim by which it isn't held: no more are, and one less where it was.
pub claimed_no_more : (q : ℕ) (c : Claim) (xs : List Claimed) → is_held c ≡ 0
    → held_count (claimed q c xs) ≤ held_count xs
claimed_no_more q c xs other = let rest = dropped_no_more q xs in omega arith

pub claimed_one_less : (q : ℕ) (c d : Claim) (xs : List Claimed) → is_held c ≡ 0 → is_held d ≡ 1
    → claim_of xs q ≡ some d
    → suc (held_count (claimed q c xs)) ≤ held_count xs
claimed_one_less q c d xs other counts held = let rest = dropped_one_less q xs d counts held in
    omega arith
