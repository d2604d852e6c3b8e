-- Where the reading of parts one after another halts, what it took goes on to such parts.
use Rattle.std.proofs.Common.{◌≡◌, ℕ, zero, suc, Bool, true, false, List, ◌∷◌, ◌++◌, Ok, subst, append_assoc}
use Rattle.ca_text.specs.Bytes.{comma}
use Rattle.ca_text.specs.declared.fault.Why.TheVariants.{Syntax}
use Rattle.ca_text.specs.Grammar.{AreBlanks, skip}
use Rattle.ca_text.specs.Inner.Reading.{Read, series_at, series_rest}
use Rattle.ca_text.proofs.Numbers.{skipped}
use Rattle.ca_text.proofs.Sound.{IsStep}
use Rattle.ca_text.proofs.Yields.{Yields}
use Rattle.ca_text.proofs.Halts.{HaltsAt, Halts, ok_halts, here_halts, whole_halts, bind_halts, behind_as}

with_comma : (bytes text r before s tail behind after u : List ℕ) → bytes ≡ text ++ r → r ≡ before ++ s → s ≡ comma ∷ tail → tail ≡ behind ++ u → u ≡ after
    → bytes ≡ (text ++ (before ++ comma ∷ behind)) ++ after
with_comma bytes text r before s tail behind after u e f g h i = rw (e, f, g, h, i) (simp append_assoc)

module _ {B : Type 0} (IsPart : List ℕ → List B → Type 0) (Are : ℕ → List ℕ → List B → Type 0) (closing : List ℕ)
    (another : (n : ℕ) (text before after rest : List ℕ) (b bs : List B) → IsPart text b → AreBlanks before → AreBlanks after → Are n rest bs
    → Are (suc n) (text ++ (before ++ comma ∷ (after ++ rest))) (b ++ bs))
    (step : ℕ → List ℕ → Read (List B × Bool))
    (step_taken : (n : ℕ) (bytes : List ℕ)
    → Yields (λ (x : (List B × Bool) × List ℕ). IsStep IsPart closing bytes x.0.0 x.0.1 x.1) (step n bytes))
    (step_halts : (n : ℕ) → Halts (step n) (Are (suc n)))
    -- behind a comma one more part may stand
    (once_more : (n : ℕ) (bytes : List ℕ) (b : List B) (after : List ℕ) → step n bytes ≡ Ok ((b, true), after) → (text : List ℕ) → IsPart text b
    → (more : List ℕ) × (bs : List B) × Are n more bs) where
  behind_step : (n : ℕ) (bytes : List ℕ) (b : List B) (more : Bool) (after : List ℕ) → Halts (series_at step n) (Are n) → step n bytes ≡ Ok ((b, more), after)
      → HaltsAt (Are (suc n)) bytes (series_rest b (series_at step n) more after)
  behind_step n bytes b false after later e = ok_halts
  behind_step n bytes b true after later e =
      let p = (step_taken n bytes).is ((b, true), after) e in
      let before = skipped p.0 in
      let behind = skipped p.2.0 in
      let taken = p.1.text ++ (before.blanks ++ comma ∷ behind.blanks) in
      let whole =
      with_comma bytes p.1.text p.0 before.blanks (skip p.0) p.2.0 behind.blanks after (skip p.2.0) p.1.whole before.whole p.2.1 behind.whole p.2.2 in
      let further : (text : List ℕ) (bs : List B) → Are n text bs → Are (suc n) (taken ++ text) (b ++ bs) = λ text bs are.
      let same : p.1.text ++ (before.blanks ++ comma ∷ (behind.blanks ++ text)) ≡ taken ++ text = simp append_assoc in
      subst (λ x. Are (suc n) x (b ++ bs)) same (another n p.1.text before.blanks behind.blanks text b bs p.1.is before.are behind.are are) in
      let once = once_more n bytes b after e p.1.text p.1.is in
      whole_halts whole (behind_as taken (once.0, b ++ once.1, further once.0 once.1 once.2) (λ text bs are. (b ++ bs, further text bs are))
      (bind_halts _ (later after) (λ x k. ok_halts)))

  -- Parts one after another halt where what they took goes on.
  pub series_halts : (n : ℕ) → Halts (series_at step n) (Are n)
  unfolding series_at
  series_halts zero bytes = here_halts Syntax bytes
  series_halts (suc n) bytes = bind_halts _ (step_halts n bytes) (λ x e. behind_step n bytes x.0.0 x.0.1 x.1 (series_halts n) e)
