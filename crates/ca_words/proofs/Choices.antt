-- What a choice by a test tells.
use Rattle.std.proofs.Common.{◌≡◌, ◌⊎◌, true, false, Some, None, refl, sym, inl, inr}
use Rattle.std.proofs.lemmas.Bool.{false≢true}
use Rattle.std.specs.Prelude.{Bool, Option, ◌&&◌, not, if◌then◌else◌}

pub first_holds : (a b : Bool) → (a && b) ≡ true → a ≡ true
first_holds true b h = refl
first_holds false b h = h

pub second_holds : (a b : Bool) → (a && b) ≡ true → b ≡ true
second_holds true b h = h
second_holds false b h = absurd (false≢true h)

pub not_holds : (a : Bool) → not a ≡ true → a ≡ false
not_holds true h = sym h
not_holds false h = refl

-- a choice between a value and others is the value where the test holds, and else among the others
pub chosen : {X : Type 0} (b : Bool) (here there : X) (others : Option X) → (if b then Some here else others) ≡ Some there
    → ((b ≡ true) × (here ≡ there)) ⊎ (others ≡ Some there)
chosen true here there others h = inl (refl, cc)
chosen false here there others h = inr h

-- a value that stands under a test
pub tested : {X : Type 0} (b : Bool) (here there : X) → (if b then Some here else None) ≡ Some there → (b ≡ true) × (here ≡ there)
tested true here there h = (refl, cc)
tested false here there h = absurd cc

pub tested_not : {X : Type 0} (b : Bool) (here there : X) → (if b then None else Some here) ≡ Some there → (b ≡ false) × (here ≡ there)
tested_not true here there h = absurd cc
tested_not false here there h = (refl, cc)

pub under : {X : Type 0} (b : Bool) (found : Option X) (there : X) → (if b then found else None) ≡ Some there → (b ≡ true) × (found ≡ Some there)
under true found there h = (refl, h)
under false found there h = absurd cc

pub neither : {X Y : Type 0} (b : Bool) (there : X) → (if b then None else None) ≡ Some there → Y
neither true there h = absurd cc
neither false there h = absurd cc
