-- Objects of bases that were counted, and what bases have together within edges.
use Rattle.std.proofs.Common.{◌≡◌, ℕ, zero, suc, ◌-◌, ◌≤◌, Bool, true, false, List, [], ◌∷◌, ◌++◌, if◌then◌else◌, length, map, take, drop, refl, ap, inl, inr, ⊎_elim, arith}
use Rattle.std.specs.Prelude.{filter, slice_range}
use denote.Ref.{Bor}
use denote.Param.Members.{Shared}
use Rattle.ca_model.specs.Edges.{Bound, from, is_from, is_up_to, objects_of, within}
use Rattle.ca_model.specs.Function.{MaySay}
use Rattle.ca_model.specs.Runs.{HasCounted}
use Rattle.ca_model.specs.StoreMap.{Pair, StoreMap}

-- A part of a list up to its end is what is from its beginning on.
pub part_to_end : {A : Type 0} (xs : List A) (n end : ℕ) → end ≡ length xs → slice_range xs n end ≡ drop n xs
part_to_end xs n end e = take_all (drop n xs) (end - n) (let l = length_drop n xs in omega arith)
  where
    length_drop : {A : Type 0} (k : ℕ) (ys : List A) → length (drop k ys) ≡ length ys - k
    length_drop {A = A} zero [] = refl
    length_drop zero (y ∷ ys) = omega arith
    length_drop (suc k) [] = omega arith
    length_drop (suc k) (y ∷ ys) = let l = length_drop k ys in omega arith

    take_all : {A : Type 0} (ys : List A) (k : ℕ) → length ys ≤ k → take k ys ≡ ys
    take_all {A = A} [] zero l = refl
    take_all [] (suc k) l = refl
    take_all (y ∷ ys) zero l = absurd (omega arith)
    take_all {A = A} (y ∷ ys) (suc k) l = ap (λ (zs : List A). y ∷ zs) (take_all ys k (omega arith))

-- What two filters leave of what the first one left passes that one still.
filter_kept : (f g : Pair → Bool) (m : StoreMap) → filter f (filter g (filter f m)) ≡ filter g (filter f m)
filter_kept f g [] = refl
filter_kept f g (q ∷ m) = by (f q) (g q) refl refl (filter_kept f g m)
  where
    by : (b c : Bool) → f q ≡ b → g q ≡ c → filter f (filter g (filter f m)) ≡ filter g (filter f m)
        → filter f (filter g (if b then q ∷ filter f m else filter f m)) ≡ filter g (if b then q ∷ filter f m else filter f m)
    by true true e d rec = rw (d, e) (ap (λ x. q ∷ x) rec)
    by true false e d rec = rw d rec
    by false true e d rec = rec
    by false false e d rec = rec

-- What a part of the keys has is all up to where that ends, from whatever key on.
pub up_to_all : (lo low high : Bound) (map : StoreMap) → within lo high (within low high map) ≡ from lo (within low high map)
up_to_all lo low high map = filter_kept (λ p. is_up_to high p.0) (λ p. is_from lo p.0) (from low map)

-- What two parts have within a lower edge is what both have.
pub from_both : (lo : Bound) (xs ys : StoreMap) → objects_of (from lo (xs ++ ys)) ≡ objects_of (from lo xs) ++ objects_of (from lo ys)
from_both lo [] ys = refl
from_both lo (x ∷ xs) ys = by (is_from lo x.0) refl (from_both lo xs ys)
  where
    by : (b : Bool) → is_from lo x.0 ≡ b → objects_of (from lo (xs ++ ys)) ≡ objects_of (from lo xs) ++ objects_of (from lo ys)
        → objects_of (if b then x ∷ from lo (xs ++ ys) else from lo (xs ++ ys)) ≡ objects_of (if b then x ∷ from lo xs else from lo xs) ++ objects_of (from lo ys)
    by true e rec = ap (λ (os : List (List ℕ)). x.1 ∷ os) rec
    by false e rec = rec

module _ {F : Type 0} (g : Shared F (Bor (List ℕ) × Unit {0}) Bool) (f : F) where
  -- Where so many were counted, fewer were.
  pub counted_fewer : (n m : ℕ) (objects : List (List ℕ)) → n ≤ m → HasCounted g f m objects → HasCounted g f n objects
  counted_fewer zero m objects l h = tt
  counted_fewer (suc n) zero objects l h = absurd (omega arith)
  counted_fewer (suc n) (suc m) [] l h = h
  counted_fewer (suc n) (suc m) (o ∷ objects) l h = ⊎_elim
      (λ (a : MaySay g f o true × HasCounted g f m objects). inl (a.0, counted_fewer n m objects (omega arith) a.1))
      (λ (b : HasCounted g f (suc m) objects). inr (counted_fewer (suc n) (suc m) objects l b)) h
