-- The account of one row through a step.
use Rattle.std.proofs.Common.{◌≡◌, ℕ, ◌+◌, ◌*◌, ◌<◌, ◌≤◌, List, get_or, ◌∙◌, inl, inr, ⊎_elim, arith}
use mathlib.Core.Option.{Option}
use Rattle.ca_rows.specs.declared.view.Claim.{Claim}
use Rattle.ca_rows.specs.declared.view.Claim.TheVariants.{Holds, Lends, Unlinked, Keeps}
use Rattle.ca_rows.specs.Chain.{Owner, Free, Linked, Of}
use Rattle.ca_rows.specs.Words.{epoch}
use Rattle.ca_rows.specs.Account.{IsAlone, IsOut, IsClaim, IsRow}
use Rattle.ca_rows.specs.Layout.{row_words}

module _ (words words' : List ℕ) (L L' B B' : ℕ → Type 0) (N N' : ℕ → ℕ → Type 0)
    (claim claim' : ℕ → ℕ → Option Claim) where
  -- The row is as it was. What nobody can reach keeps its words and gets no note.
  pub record IsAsItWas (r : ℕ) : Type 0 where
    pub words_are : ¬ L r → (k : ℕ) → k < row_words
        → get_or words' (row_words * r + k) 0 ≡ get_or words (row_words * r + k) 0
    pub links : (L' r → L r) × (L r → L' r)
    pub lents : (B' r → B r) × (B r → B' r)
    pub notes : ¬ L r → (m : ℕ) → N' m r → N m r
    pub claims : (j : ℕ) → claim' j r ≡ claim j r

  module _ (later : epoch words ≤ epoch words') (r : ℕ) (same : IsAsItWas r) where
    alone_stays : IsAlone words L B N r → IsAlone words' L' B' N' r
    alone_stays a = ((λ l. a.0 (same.links.0 l)), (λ m n. a.1 m (same.notes a.0 m n)))

    out_stays : (age : ℕ) → IsOut words L B N r age → IsOut words' L' B' N' r age
    out_stays age o = (
      (λ l. o.0 (same.links.0 l)),
      (let z = o.1 in omega arith),
      (λ m n. o.2 m (same.notes o.0 m n)),
    )

    claim_stays : (c : Claim) → IsClaim words L B N r c → IsClaim words' L' B' N' r c
    claim_stays (Holds its) c = (c.0, (λ k l. same.words_are c.2.0 k l ∙ c.1 k l), alone_stays c.2)
    claim_stays Lends c = ⊎_elim (λ b. inl (same.lents.1 b))
        (λ (o : (age : ℕ) × IsOut words L B N r age). inr (o.0, out_stays o.0 o.1)) c
    claim_stays Unlinked c = (c.0, out_stays c.0 c.1)
    claim_stays (Keeps t) c = (c.0, c.1, (let z = c.2 in omega arith), out_stays c.0 c.3)

    -- So its account is as it was.
    pub row_stays : (o : Owner) → IsRow words L B N claim r o → IsRow words' L' B' N' claim' r o
    row_stays (Free k) x = (alone_stays x.0, λ j. same.claims j ∙ x.1 j)
    row_stays Linked x = (same.links.1 x.0, (λ b. x.1 (same.lents.0 b)), λ j. same.claims j ∙ x.2 j)
    row_stays (Of i) x = (
      (x.0.0, same.claims i ∙ x.0.1, claim_stays x.0.0 x.0.2),
      λ j n. same.claims j ∙ x.1 j n,
    )

-- With fewer notes a claim holds too.
pub claim_fewer : (words : List ℕ) (L B : ℕ → Type 0) (N N' : ℕ → ℕ → Type 0) (r : ℕ)
    → ((m : ℕ) → N' m r → N m r) → (c : Claim) → IsClaim words L B N r c
    → IsClaim words L B N' r c
claim_fewer words L B N N' r fewer (Holds its) c = (c.0, c.1, (c.2.0, λ m n. c.2.1 m (fewer m n)))
claim_fewer words L B N N' r fewer Lends c = ⊎_elim (λ b. inl b)
    (λ (o : (age : ℕ) × IsOut words L B N r age).
    inr (o.0, (o.1.0, o.1.1, λ m n. o.1.2 m (fewer m n)))) c
claim_fewer words L B N N' r fewer Unlinked c = (c.0, (c.1.0, c.1.1, λ m n. c.1.2 m (fewer m n)))
claim_fewer words L B N N' r fewer (Keeps t) c =
    (c.0, c.1, c.2, (c.3.0, c.3.1, λ m n. c.3.2 m (fewer m n)))
