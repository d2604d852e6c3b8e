-- What holds of the values that are read.
use Rattle.std.proofs.Common.{◌≡◌, ℕ, Bool, true, false, cond, eqb, List, [], ◌∷◌, ◌++◌, Result, Ok, Err, refl, ap, subst}
use Rattle.std.proofs.lemmas.Bool.{eqb-true}
use Rattle.ca_text.specs.declared.fault.Fault.{Fault}
use Rattle.ca_text.specs.Inner.Reading.{◌>>=◌, Read, expect}
use Rattle.ca_text.proofs.Tools.{bind_ok, ok_is}

-- what is read, if anything, is so
pub record Yields {X : Type 0} (P : X → Type 0) (r : Result X Fault) : Type 0 where
  pub is : (x : X) → r ≡ Ok x → P x

-- a text of this kind stands at the front
pub record Stands {A : Type 0} (IsOf : List ℕ → A → Type 0) (bytes : List ℕ) (a : A) (rest : List ℕ) : Type 0 where
  pub text : List ℕ
  pub whole : bytes ≡ text ++ rest
  pub is : IsOf text a

-- what is read is a text of this kind
abbrev pub Takes : {A : Type 0} → (List ℕ → A → Type 0) → (List ℕ → Read A) → Type 0
Takes {A} IsOf reader = (bytes : List ℕ) → Yields (λ (x : A × List ℕ). Stands IsOf bytes x.0 x.1) (reader bytes)

-- Whatever is read is read.
pub any_yields : {X : Type 0} (r : Result X Fault) → Yields (λ (x : X). Unit {0}) r
any_yields r = record { is = λ x e. tt }

module _ {X : Type 0} {P : X → Type 0} where
  -- A value that is so.
  pub ok_yields : {x : X} → P x → Yields P (Ok x)
  ok_yields {x} p = record { is = λ y e. subst P (ok_is x y e) p }

  -- No value.
  pub err_yields : {f : Fault} → Yields P (Err f)
  err_yields = record { is = λ y e. absurd cc }

  -- A value whichever way a test goes.
  pub if_yields : {r s : Result X Fault} (b : Bool) → (b ≡ true → Yields P r) → (b ≡ false → Yields P s) → Yields P (cond b r s)
  if_yields true f g = f refl
  if_yields false f g = g refl

  -- What is so is so in another way.
  pub map_yields : {Q : X → Type 0} {r : Result X Fault} → Yields P r → ((x : X) → P x → Q x) → Yields Q r
  map_yields y f = record { is = λ x e. f x (y.is x e) }

-- One reader behind another.
pub bind_yields : {X Y : Type 0} {P : X → Type 0} {Q : Y → Type 0} {r : Result X Fault} (g : X → Result Y Fault) → Yields P r → ((x : X) → P x → Yields Q (g x))
    → Yields Q (r >>= g)
bind_yields {r = r} g first second = record { is = λ y e. let s = bind_ok r g y e in (second s.0 (first.is s.0 s.1)).is y s.2 }

-- A byte that is read stands at the front.
pub expect_yields : (c : ℕ) (bytes : List ℕ) → Yields (λ (rest : List ℕ). bytes ≡ c ∷ rest) (expect c bytes)
unfolding expect
expect_yields c [] = err_yields
expect_yields c (b ∷ bytes) = if_yields (eqb b c) (λ h. ok_yields (ap (λ x. x ∷ bytes) (eqb-true b c h))) (λ h. err_yields)
