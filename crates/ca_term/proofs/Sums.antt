-- Operations on counters: the next of several, their sums in a wider type, and what a threshold makes of these.
use Rattle.std.proofs.Common.{◌≡◌, ℕ, ◌+◌, ◌<◌, List, ◌∷◌, length, drop, get_or, map, drop-cons, add-one, true, false, arith, refl, sym, ◌∙◌, ap, ℤ, pos, negsuc, ◌+ℤ◌, FitsSigned, Some, to_z, of_z}
use Rattle.std.specs.Int.{w64, w128}
use Rattle.std.proofs.lemmas.Int.{to_z-of_z}
use Rattle.ca_term.specs.Add.{addition_of}
use Rattle.ca_term.specs.declared.add.Add.{Add}
use Rattle.ca_term.specs.Updates.{Addition, is_past, value_of}

wide : (z : ℤ) → FitsSigned w64 z → FitsSigned w128 z
wide (pos n) f = record { sfits = omega (arith, f.sfits) }
wide (negsuc m) f = record { sfits = omega (arith, f.sfits) }

wide_sum : (x y : ℤ) → FitsSigned w64 x → FitsSigned w64 y → FitsSigned w128 (x +ℤ y)
wide_sum x y f g = search arith

-- A value in a wider type is the same value.
pub widened : (n r : ℤ) → FitsSigned w64 n → r ≡ to_z w64 (of_z w64 n) → to_z w128 (of_z w128 r) ≡ n
widened n r f e =
    let s : r ≡ n = e ∙ to_z-of_z w64 n f in
    ap (λ x. to_z w128 (of_z w128 x)) s ∙ to_z-of_z w128 n (wide n f)

-- The sum of two values in a wider type is exact.
pub sum_is : (n i r q : ℤ) → FitsSigned w64 n → FitsSigned w64 i → r ≡ to_z w64 (of_z w64 n) → q ≡ to_z w64 (of_z w64 i)
    → to_z w128 (of_z w128 (to_z w128 (of_z w128 r) +ℤ to_z w128 (of_z w128 q))) ≡ n +ℤ i
sum_is n i r q f g d e =
    (λ j. to_z w128 (of_z w128 (widened n r f d j +ℤ widened i q g e j))) ∙ to_z-of_z w128 (n +ℤ i) (wide_sum n i f g)

-- Past the threshold the other value takes the sum's place.
pub value_past : (n : ℤ) (a : Addition) (threshold value sum : ℤ) → a.cap ≡ Some (threshold, value) → sum ≡ n +ℤ a.increment
    → is_past a.increment threshold sum ≡ true → value ≡ value_of a n
value_past n a threshold value sum e f h = rw (e, ← f, h) refl

-- Otherwise the sum stays.
pub value_within : (n : ℤ) (a : Addition) (threshold value sum : ℤ) → a.cap ≡ Some (threshold, value) → sum ≡ n +ℤ a.increment
    → is_past a.increment threshold sum ≡ false → sum ≡ value_of a n
value_within n a threshold value sum e f h = rw (e, ← f, h) refl

-- The next operation, and those behind it.
pub next_add : (adds : List Add) (i : ℕ) (d : Add) → i < length adds
    → map addition_of (drop i adds) ≡ addition_of (get_or adds i d) ∷ map addition_of (drop (i + 1) adds)
next_add adds i d h = ap (map addition_of) (drop-cons adds i d h) ∙ ap (λ k. addition_of (get_or adds i d) ∷ map addition_of (drop k adds)) (sym (add-one i))
