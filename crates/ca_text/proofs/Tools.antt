-- Steps of reading, taken apart.
use Rattle.std.proofs.Common.{◌≡◌, Bool, true, false, cond, ◌&&◌, ◌||◌, Result, Ok, Err, refl, ap, ◌⊎◌, inl, inr}
use Rattle.ca_text.specs.declared.fault.Fault.{Fault}
use Rattle.ca_text.specs.Inner.Reading.{◌>>=◌}

-- the value of a step that did not fail
pub bind_ok : {A B : Type 0} (r : Result A Fault) (f : A → Result B Fault) (y : B) → (r >>= f) ≡ Ok y → (x : A) × (r ≡ Ok x) × (f x ≡ Ok y)
bind_ok (Ok x) f y e = (x, refl, e)
bind_ok (Err d) f y e = absurd cc

-- A goal that holds whichever way a test goes holds.
pub either_way : {C : Type 0} (b : Bool) → (b ≡ true → C) → (b ≡ false → C) → C
either_way true f g = f refl
either_way false f g = g refl

-- which way a test went
pub chosen : {A : Type 0} (b : Bool) (x y z : A) → cond b x y ≡ z → ((b ≡ true) × (x ≡ z)) ⊎ ((b ≡ false) × (y ≡ z))
chosen true x y z e = inl (refl, e)
chosen false x y z e = inr (refl, e)

-- a test that did not fail, the value first and last
pub guarded : {A : Type 0} (b : Bool) (d : Fault) (x : Result A Fault) (y : A) → cond b x (Err d) ≡ Ok y → (b ≡ true) × (x ≡ Ok y)
guarded true d x y e = (refl, e)
guarded false d x y e = absurd cc

-- Where two tests hold together, each holds.
pub both : (a b : Bool) → (a && b) ≡ true → (a ≡ true) × (b ≡ true)
both true b e = (refl, e)
both false b e = absurd cc

-- Where one of two tests holds, one does.
pub either : (a b : Bool) → (a || b) ≡ true → (a ≡ true) ⊎ (b ≡ true)
either true b e = inl refl
either false b e = inr e

abbrev done : {A : Type 0} → A → Result A Fault
done x = Ok x

-- Equal values that were read are equal.
pub ok_is : {A : Type 0} (x y : A) → done x ≡ done y → x ≡ y
ok_is x y e = cc

-- the parts of a pair that a step answered
pub pair_is : {A B : Type 0} (x : A) (xs : B) (y : A) (ys : B) → done {A = A × B} (x, xs) ≡ done {A = A × B} (y, ys) → (x ≡ y) × (xs ≡ ys)
pair_is {A} {B} x xs y ys e =
    let p : A × B = (x, xs) in
    let q : A × B = (y, ys) in
    (ap (λ (z : A × B). z.0) (ok_is p q e), ap (λ (z : A × B). z.1) (ok_is p q e))
