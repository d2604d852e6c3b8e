-- What the steps of one call come to together.
use Rattle.std.proofs.Common.{◌≡◌, ◌≢◌, ℕ, ◌<◌, eqb, Bool, List, length, sym, ap, ◌∙◌, subst, eq-eqb, ne_eqb}
use mathlib.Core.Logic.{dite}
use mathlib.Core.Option.{none}
use native.Mathlib.Decide.{ℕ_discrete}
use Rattle.ca_rows.specs.declared.view.Claim.TheVariants.{Holds}
use Rattle.ca_rows.specs.declared.view.Claimed.{Claimed}
use Rattle.ca_rows.specs.declared.view.Pin.{Pin}
use Rattle.ca_rows.specs.declared.view.Stage.{Stage}
use Rattle.ca_rows.specs.Calls.{IsNumbered, PutsRow}
use Rattle.ca_rows.specs.Claims.{claim_of, claimed, dropped}
use Rattle.ca_rows.specs.Told.{Mine, with_stage, with_claims, with_most, missed}
use Rattle.ca_rows.proofs.Claiming.{dropped_claimed}
use Rattle.ca_rows.specs.Layout.{row_words}

-- A seat whose pin has a pass's number is a pass's.
pub is_pass : (number : ℕ) (e : Pin) → IsNumbered number e → 0 < e.number
is_pass number e n = subst (λ (x : ℕ). 0 < x) (sym n.0) n.1

-- It has the number still.
pub numbered_still : (number number' : ℕ) (e e' : Pin) → number' ≡ number → e' ≡ e → IsNumbered number e → IsNumbered number' e'
numbered_still number number' e e' same pin n =
    subst (λ (x : ℕ × Pin). IsNumbered x.0 x.1) (λ i. (sym same i, sym pin i)) n

module _ {U : Type 0} (a b c d : Mine U) (one two : Stage) (looked : b ≡ with_stage a one) where
  peeked_too : c ≡ with_stage b two → c ≡ with_stage a two
  peeked_too peeked = peeked ∙ ap (λ (m : Mine U). with_stage m two) looked

  -- Two loads and an exchange that took the row.
  pub row_taken : (q : ℕ) (its : List ℕ) → c ≡ with_stage b two → claim_of c.0.claims q ≡ none
      → d ≡ with_most (with_claims c (claimed q (Holds its) c.0.claims))
      → (claim_of a.0.claims q ≡ none)
      × (d ≡ with_most (with_claims a (claimed q (Holds its) a.0.claims)))
  row_taken q its peeked free took = let e = peeked_too peeked in (
    ap (λ (m : Mine U). claim_of m.0.claims q) (sym e) ∙ free,
    took
        ∙ ap (λ (m : Mine U). with_most (with_claims m (claimed q (Holds its) m.0.claims))) e,
  )

  -- Two loads and an exchange that lost.
  pub row_missed : c ≡ with_stage b two → d ≡ missed c → d ≡ missed a
  row_missed peeked lost = lost ∙ ap missed (peeked_too peeked)

abbrev pub with_its : {U : Type 0} → Mine U → ℕ → List ℕ → Mine U
with_its m q its = (record m.0 { claims = claimed q (Holds its) m.0.claims }, m.1)

-- A load, a store in the row, and an exchange that found n.
pub row_put : {U : Type 0} (a b c d : Mine U) (one : Stage) (q q' n old : ℕ) (its : List ℕ)
    → length its ≡ row_words → b ≡ with_stage a one → c ≡ with_its b q its
    → q' ≡ q
    → (n ≡ old → d ≡ with_claims c (dropped q' c.0.claims)) → (n ≢ old → d ≡ missed c)
    → PutsRow (eqb n old) q a d
row_put {U} a b c d one q q' n old its long looked wrote same gave lost = let now : c
    ≡ with_its (with_stage a one) q its = wrote
    ∙ ap (λ (m : Mine U). with_its m q its) looked in dite (ℕ_discrete n old)
    (λ hit. subst (λ (x : Bool). PutsRow x q a d) (sym (eq-eqb n old hit))
    (gave hit ∙ (ap (λ (y : ℕ). with_claims c (dropped y c.0.claims)) same
    ∙ (ap (λ (m : Mine U). with_claims m (dropped q m.0.claims)) now
    ∙ ap (λ (xs : List Claimed). with_claims a xs) (dropped_claimed a.0.claims q (Holds its))))))
    (λ miss. subst (λ (x : Bool). PutsRow x q a d) (sym (ne_eqb n old miss)) (
      its,
      long,
      lost miss
          ∙ ap missed now,
    ))

-- Where only the pool's part of a view changed, its size, its pin and its upper part are as they
-- were.
pub still : {U : Type 0} (m m' : Mine U) (st : Stage) (xs : List Claimed) (lost empty worn most : ℕ)
    → m' ≡ (
      record m.0 {
        stage =
            st;
        claims = xs;
        lost = lost;
        empty = empty;
        worn = worn;
        most = most;
      },
      m.1,
    )
    → (m'.0.sizes ≡ m.0.sizes) × (m'.0.pin ≡ m.0.pin) × (m'.0.upper ≡ m.0.upper)
still {U} m m' st xs lost empty worn most e = (
  ap (λ (x : Mine U). x.0.sizes) e,
  ap (λ (x : Mine U). x.0.pin) e,
  ap (λ (x : Mine U). x.0.upper) e,
)
