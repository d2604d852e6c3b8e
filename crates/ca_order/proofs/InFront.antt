-- Codes behind a term that stands in front.
use Rattle.std.proofs.Common.{◌≡◌, ◌==◌, ℕ, zero, suc, ◌+◌, ◌-◌, ◌≤◌, ◌<◌, ◌^◌, pos, negsuc, Bool, true, false, ℤ, List, [], ◌∷◌, ◌++◌, length, refl, arith, sym, ◌∙◌, ap, subst}
use Rattle.std.proofs.lemmas.Bool.Decides.{nat_tests}
use Rattle.ca_term.specs.Tree.{Tree, Nil, IsTerm, row_of}
use Rattle.ca_term.specs.Code.{code_of, row_code}
use Rattle.ca_order.specs.Codes.{AreCodes, BeginsOtherwise}
use Rattle.ca_order.specs.Reads.{BeginsWithTerm}
use Rattle.ca_order.proofs.CodeParts.{behind_codes, behind_terms, none}
use Rattle.ca_order.proofs.FirstBytes.{first_same}
use Rattle.ca_order.proofs.Lasts.{nil_term}
use Rattle.ca_order.proofs.Skipped.{row_longer}

module _ (bytes rest : List ℕ) (levels : ℕ) (t : Tree) (a : AreCodes bytes) (w : BeginsWithTerm levels bytes t rest) where
  -- Behind a term that stands in front are the codes of the other terms.
  pub others_there : AreCodes rest
  others_there = behind_codes bytes (code_of t) rest a (t, w.bounded, refl) w.parts

  -- So the terms are that one and these.
  pub others_are : (b : AreCodes rest) → a.0 ≡ t ∷ b.0
  others_are b = behind_terms bytes (code_of t) rest a (t, w.bounded, refl) w.parts b t w.bounded refl

-- What is read behind a first byte is read with it.
pub with_tag : (b tag : ℕ) (bytes inside rest : List ℕ) (t : Tree) → bytes ≡ b ∷ inside → b ≡ tag → BeginsWithTerm 1 (tag ∷ inside) t rest
    → BeginsWithTerm 1 bytes t rest
with_tag b tag bytes inside rest t e f w =
    subst (λ (x : List ℕ). BeginsWithTerm 1 x t rest) (sym (e ∙ ap (λ (x : ℕ). x ∷ inside) f)) w

-- Bytes that begin with 60 begin with the empty list.
pub nil_there : (b : ℕ) (bytes rest : List ℕ) → bytes ≡ b ∷ rest → b ≡ 0x60 → BeginsWithTerm 1 bytes Nil rest
nil_there b bytes rest e f = nil_term 1 bytes rest Nil (omega arith) (e ∙ ap (λ (x : ℕ). x ∷ rest) f) refl

no_nil : (bytes : List ℕ) (a : AreCodes bytes) → ((inside : List ℕ) → bytes ≡ 0x60 ∷ inside → ⊥) → BeginsOtherwise Nil a.0
unfolding code_of row_code
no_nil bytes a n others e = n (row_code (row_of others)) (a.2 ∙ ap (λ (x : List Tree). row_code (row_of x)) e)

-- No bytes begin with no empty list.
pub no_nil_there : (bytes : List ℕ) (a : AreCodes bytes) → length bytes ≡ 0 → BeginsOtherwise Nil a.0
no_nil_there bytes a e = no_nil bytes a (λ inside f. omega (arith, e, ap length f))

-- Nor do bytes whose first one is not 60.
pub other_nil : (bytes inside : List ℕ) (b : ℕ) (a : AreCodes bytes) → bytes ≡ b ∷ inside → (b ≡ 0x60 → ⊥) → BeginsOtherwise Nil a.0
other_nil bytes inside b a e n = no_nil bytes a (λ body f. n (first_same b 0x60 inside body (sym e ∙ f)).0)

no_zero : (n : ℕ) → 1 ≤ n → (n == 0) ≡ false
no_zero zero h = absurd (omega arith)
no_zero (suc n) h = grind (arith, nat_tests)

-- Bytes are none where terms are none.
pub both_none : (bytes : List ℕ) (a : AreCodes bytes) (r : Bool) → r ≡ (length bytes == 0) → r ≡ (length a.0 == 0)
both_none bytes a r e = by a.0 a.2
  where
    by : (ts : List Tree) → bytes ≡ row_code (row_of ts) → r ≡ (length ts == 0)
    by [] q = e ∙ ap (λ (x : List ℕ). length x == 0) (q ∙ sym none)
    by (t ∷ ts) q =
        e ∙ no_zero (length bytes) (omega (arith, ap length q, row_longer (t ∷ ts))) ∙ sym (no_zero (length (t ∷ ts)) (omega arith))
