-- Lists of claims, and the claims of all seats after one seat's step.
use Rattle.std.proofs.Common.{◌≡◌, ◌≢◌, ℕ, zero, suc, eqb, cond, List, [], ◌∷◌, set, sym, refl, ap, ◌∙◌, eq-eqb, ne_eqb}
use mathlib.Core.Logic.{dite}
use mathlib.Core.Option.{Option, some, none}
use native.Mathlib.Decide.{ℕ_discrete}
use lib.ListN.{get_elem?}
use Rattle.atomic_table.proofs.Lists.{set_else}
use Rattle.ca_rows.specs.declared.view.Claim.{Claim}
use Rattle.ca_rows.specs.declared.view.Claimed.{Claimed}
use Rattle.ca_rows.specs.declared.view.View.{View}
use Rattle.ca_rows.specs.Claims.{claim_of, dropped, claimed, claim_from, claim_at}

-- Dropping the claim on one row keeps those on the others.
pub dropped_else : (xs : List Claimed) (q r : ℕ) → r ≢ q → claim_of (dropped q xs) r ≡ claim_of xs r
dropped_else [] q r n = refl
dropped_else (x ∷ xs) q r n = dite (ℕ_discrete x.row q)
    (λ e. let other : x.row ≢ r = λ f. n (sym f ∙ e) in
    ap (λ b. claim_of (cond b (dropped q xs) (x ∷ dropped q xs)) r) (eq-eqb x.row q e)
    ∙ (dropped_else xs q r n
    ∙ sym (ap (λ b. cond b (some x.claim) (claim_of xs r)) (ne_eqb x.row r other))))
    (λ m. ap (λ b. claim_of (cond b (dropped q xs) (x ∷ dropped q xs)) r) (ne_eqb x.row q m)
    ∙ ap (λ y. cond (eqb x.row r) (some x.claim) y) (dropped_else xs q r n))

-- There is none on the row itself.
pub dropped_here : (xs : List Claimed) (q : ℕ) → claim_of (dropped q xs) q ≡ none
dropped_here [] q = refl
dropped_here (x ∷ xs) q = dite (ℕ_discrete x.row q)
    (λ e. ap (λ b. claim_of (cond b (dropped q xs) (x ∷ dropped q xs)) q) (eq-eqb x.row q e)
    ∙ dropped_here xs q)
    (λ m. ap (λ b. claim_of (cond b (dropped q xs) (x ∷ dropped q xs)) q) (ne_eqb x.row q m)
    ∙ (ap (λ b. cond b (some x.claim) (claim_of (dropped q xs) q)) (ne_eqb x.row q m)
    ∙ dropped_here xs q))

pub claimed_here : (xs : List Claimed) (q : ℕ) (c : Claim) → claim_of (claimed q c xs) q ≡ some c
claimed_here xs q c = ap (λ b. cond b (some c) (claim_of (dropped q xs) q)) (eq-eqb q q refl)

pub claimed_else : (xs : List Claimed) (q r : ℕ) (c : Claim) → r ≢ q
    → claim_of (claimed q c xs) r ≡ claim_of xs r
claimed_else xs q r c n = ap
    (λ b. cond b (some c) (claim_of (dropped q xs) r)) (ne_eqb q r (λ e. n (sym e)))
    ∙ dropped_else xs q r n

-- A second claim on a row takes the first one's place.
pub dropped_twice : (xs : List Claimed) (q : ℕ) → dropped q (dropped q xs) ≡ dropped q xs
dropped_twice [] q = refl
dropped_twice (x ∷ xs) q = dite (ℕ_discrete x.row q)
    (λ e. ap (λ b. dropped q (cond b (dropped q xs) (x ∷ dropped q xs))) (eq-eqb x.row q e)
    ∙ (dropped_twice xs q
    ∙ sym (ap (λ b. cond b (dropped q xs) (x ∷ dropped q xs)) (eq-eqb x.row q e))))
    (λ m. ap (λ b. dropped q (cond b (dropped q xs) (x ∷ dropped q xs))) (ne_eqb x.row q m)
    ∙ (ap (λ b. cond b (dropped q (dropped q xs)) (x ∷ dropped q (dropped q xs))) (ne_eqb x.row q m)
    ∙ (ap (λ y. x ∷ y) (dropped_twice xs q)
    ∙ sym (ap (λ b. cond b (dropped q xs) (x ∷ dropped q xs)) (ne_eqb x.row q m)))))

pub dropped_claimed : (xs : List Claimed) (q : ℕ) (c : Claim)
    → dropped q (claimed q c xs) ≡ dropped q xs
dropped_claimed xs q c = ap
    (λ b. cond b (dropped q (dropped q xs))
    (record { row = q; claim = c } ∷ dropped q (dropped q xs))) (eq-eqb q q refl)
    ∙ dropped_twice xs q

pub claimed_again : (xs : List Claimed) (q : ℕ) (c d : Claim)
    → claimed q d (claimed q c xs) ≡ claimed q d xs
claimed_again xs q c d = ap
    (λ (ys : List Claimed). record { row = q; claim = d } ∷ ys) (dropped_claimed xs q c)

-- A list has something at a place where another one had.
pub there : {A : Type 0} (l : List A) (i : ℕ) (a b : A) → get_elem? l i ≡ some a
    → get_elem? (set l i b) i ≡ some b
there [] i a b e = absurd cc
there (x ∷ xs) zero a b e = refl
there (x ∷ xs) (suc i) a b e = there xs i a b e

module _ {U : Type 0} (views : List (View U)) (me : ℕ) (d d' : View U)
    (at : get_elem? views me ≡ some d) where
  -- The seat's own claims are those of its new view.
  pub claim_mine : (r : ℕ) → claim_at (set views me d') me r ≡ claim_of d'.claims r
  claim_mine r = ap (λ (x : Option (View U)). claim_from x r) (there views me d d' at)

  pub claim_there : (r : ℕ) → claim_at views me r ≡ claim_of d.claims r
  claim_there r = ap (λ (x : Option (View U)). claim_from x r) at

  pub claim_others : (j r : ℕ) → j ≢ me → claim_at (set views me d') j r ≡ claim_at views j r
  claim_others j r n = ap (λ (x : Option (View U)). claim_from x r) (set_else views me j d' n)
