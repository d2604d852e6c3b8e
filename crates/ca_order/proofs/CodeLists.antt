-- Lists of terms by their codes.
use Rattle.std.proofs.Common.{◌≡◌, ◌==◌, ℕ, zero, suc, ◌+◌, ◌≤◌, Bool, true, false, List, [], ◌∷◌, ◌++◌, length, refl, arith, sym, ◌∙◌, ap, length-append}
use Rattle.ca_term.specs.Code.{row_code}
use Rattle.ca_term.specs.Tree.{Tree, row_of}
use Rattle.std.proofs.lemmas.Bool.Decides.{nat_tests}
use Rattle.ca_order.specs.Codes.{AreCodes}
use Rattle.ca_order.specs.Languages.{IsTermCode}
use Rattle.ca_order.proofs.CodeParts.{both_terms, none, terms_are}
use Rattle.ca_order.proofs.Lists.{row_push}
use Rattle.ca_order.proofs.Skipped.{row_longer}

-- No bytes are the codes of no terms.
pub no_codes : (bytes : List ℕ) → bytes ≡ [] → AreCodes bytes
no_codes bytes e = ([], tt, e ∙ none)

pub no_terms : (bytes : List ℕ) → bytes ≡ [] → (a : AreCodes bytes) → a.0 ≡ []
no_terms bytes e a = terms_are bytes a [] tt (e ∙ none)

pub none_counted : (bytes : List ℕ) → bytes ≡ [] → (a : AreCodes bytes) → 0 ≡ length a.0
none_counted bytes e a = sym (ap length (no_terms bytes e a))

-- Equal bytes are the codes of equal terms.
pub same_codes : (bytes others : List ℕ) (a : AreCodes bytes) (b : AreCodes others) → others ≡ bytes → b.0 ≡ a.0
same_codes bytes others a b e = terms_are others b a.0 a.1 (e ∙ a.2)

-- There are no more terms than bytes.
pub counted_fits : (bytes : List ℕ) (a : AreCodes bytes) (count : ℕ) → count ≡ length a.0 → count ≤ length bytes
counted_fits bytes a count e = omega (arith, e, row_longer a.0, ap length a.2)

-- One code more is one term more.
module _ (bytes code all : List ℕ) (a : AreCodes bytes) (p : IsTermCode code) (e : all ≡ bytes ++ code) where
  abbrev pub more_codes : AreCodes all
  more_codes = (
    a.0 ++ p.0 ∷ [],
    both_terms a.0 (p.0 ∷ []) a.1 (p.1, tt),
    e ∙ ap (λ (x : List ℕ). x ++ code) a.2 ∙ ap (λ (x : List ℕ). row_code (row_of a.0) ++ x) p.2 ∙ sym (row_push a.0 p.0),
  )

  pub more_terms : (b : AreCodes all) → b.0 ≡ a.0 ++ p.0 ∷ []
  more_terms b = terms_are all b more_codes.0 more_codes.1 more_codes.2

  pub more_counted : (b : AreCodes all) (count : ℕ) → count ≡ length a.0 → count + 1 ≡ length b.0
  more_counted b count k = omega (arith, k, ap length (more_terms b), length-append a.0 (p.0 ∷ []))

no_zero : (n : ℕ) → 1 ≤ n → (n == 0) ≡ false
no_zero zero h = absurd (omega arith)
no_zero (suc n) h = grind (arith, nat_tests)

-- Bytes that are some are the codes of some terms, and no bytes are those of none.
module _ (bytes : List ℕ) (a : AreCodes bytes) (r : Bool) (e : r ≡ (length bytes == 0)) where
  pub some_codes : r ≡ false → 1 ≤ length a.0
  some_codes f = by a.0 a.2
    where
      by : (ts : List Tree) → bytes ≡ row_code (row_of ts) → 1 ≤ length ts
      by [] q = let n : r ≡ true = e ∙ ap (λ (x : List ℕ). length x == 0) (q ∙ sym none) in cc
      by (t ∷ ts) q = omega arith

  pub no_more : r ≡ true → a.0 ≡ []
  no_more f = by a.0 a.2
    where
      by : (ts : List Tree) → bytes ≡ row_code (row_of ts) → ts ≡ []
      by [] q = refl
      by (t ∷ ts) q = let n : r ≡ false = e ∙ no_zero (length bytes) (omega (arith, ap length q, row_longer (t ∷ ts))) in cc
