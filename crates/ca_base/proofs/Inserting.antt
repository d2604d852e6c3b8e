-- Lists with an element put in the place of another one, or between two.
use Rattle.std.proofs.Common.{◌≡◌, ◌≢◌, ◌⊎◌, ℕ, zero, suc, ◌+◌, ◌<◌, ◌≤◌, List, [], ◌∷◌, length, map, take, drop, get_or, Result, Ok, Err, sym, refl, ap, inl, inr, ⊎_elim, arith, length-set, length-append, length-drop}
use Rattle.std.specs.List.{insert}
use Rattle.std.proofs.lemmas.List.{map-set, length-take-le}
use mathlib.Core.Option.{some, some-injective, some-ne-none}
use lib.ListN.{get_elem?}
use Rattle.atomic_table.proofs.Lists.{at_set}
use Rattle.ca_model.specs.StoreMap.{Pair}
use Rattle.ca_model.specs.Slab.{placed}
use Rattle.ca_node.specs.Links.{IsIn}
use Rattle.ca_base.specs.Putting.{put_in}
use Rattle.ca_rows.proofs.Claiming.{there}

-- The element at a place within a list.
pub elem_or : {A : Type 0} (xs : List A) (at : ℕ) (d : A) → at < length xs
    → get_elem? xs at ≡ some (get_or xs at d)
elem_or [] at d l = absurd (omega arith)
elem_or (x ∷ xs) zero d l = refl
elem_or (x ∷ xs) (suc at) d l = elem_or xs at d (omega arith)

pub within : {A : Type 0} (xs : List A) (at : ℕ) (x : A) → get_elem? xs at ≡ some x → at < length xs
within [] at x e = absurd (some-ne-none x (sym e))
within (y ∷ xs) zero x e = omega arith
within (y ∷ xs) (suc at) x e = let l = within xs at x e in omega arith

-- Of two lists with an element put between two at the same place.
inserted_both : {A B : Type 0} (xs : List A) (ys : List B) (at k : ℕ) (x a : A) (y b : B)
    → length ys ≡ length xs → at ≤ length xs
    → get_elem? (insert xs at x) k ≡ some a → get_elem? (insert ys at y) k ≡ some b
    → ((x ≡ a) × (y ≡ b)) ⊎ ((i : ℕ) × (get_elem? xs i ≡ some a) × (get_elem? ys i ≡ some b))
inserted_both xs ys zero zero x a y b e l p q = inl (some-injective x a p, some-injective y b q)
inserted_both xs ys zero (suc k) x a y b e l p q = inr (k, p, q)
inserted_both [] ys (suc at) k x a y b e l p q = absurd (omega arith)
inserted_both (u ∷ xs) [] (suc at) k x a y b e l p q = absurd (omega arith)
inserted_both (u ∷ xs) (v ∷ ys) (suc at) zero x a y b e l p q = inr (0, p, q)
inserted_both (u ∷ xs) (v ∷ ys) (suc at) (suc k) x a y b e l p q = ⊎_elim (λ s. inl s)
    (λ o. inr (suc o.0, o.1, o.2))
    (inserted_both xs ys at k x a y b (omega arith) (omega arith) p q)

pub in_inserted : (xs : List ℕ) (at x r : ℕ) → IsIn r xs → IsIn r (insert xs at x)
in_inserted xs zero x r i = (suc i.0, i.1)
in_inserted [] (suc at) x r i = absurd (some-ne-none r (sym i.1))
in_inserted (y ∷ xs) (suc at) x r i = by i.0 i.1 (λ k e. in_inserted xs at x r (k, e))
  where
    by : (k : ℕ) → get_elem? (y ∷ xs) k ≡ some r
        → ((j : ℕ) → get_elem? xs j ≡ some r → IsIn r (insert xs at x))
        → IsIn r (insert (y ∷ xs) (suc at) x)
    by zero e more = (0, e)
    by (suc k) e more = let rest = more k e in (suc rest.0, rest.1)

here_inserted : (xs : List ℕ) (at x : ℕ) → at ≤ length xs → IsIn x (insert xs at x)
here_inserted xs zero x l = (0, refl)
here_inserted [] (suc at) x l = absurd (omega arith)
here_inserted (y ∷ xs) (suc at) x l = let more = here_inserted xs at x (omega arith) in
    (suc more.0, more.1)

map_inserted : {A B : Type 0} (f : A → B) (xs : List A) (at : ℕ) (x : A)
    → map f (insert xs at x) ≡ insert (map f xs) at (f x)
map_inserted f xs zero x = refl
map_inserted f [] (suc at) x = refl
map_inserted f (y ∷ xs) (suc at) x = ap (λ ys. f y ∷ ys) (map_inserted f xs at x)

abbrev pub IsInRange : Result ℕ ℕ → ℕ → Type 0
IsInRange (Ok at) n = at < n
IsInRange (Err at) n = at ≤ n

-- Of two lists with an element put at the same place.
pub put_both : {A B : Type 0} (place : Result ℕ ℕ) (xs : List A) (ys : List B) (k : ℕ) (x a : A)
    (y b : B) → length ys ≡ length xs
    → IsInRange place (length xs) → get_elem? (put_in xs place x) k ≡ some a
    → get_elem? (put_in ys place y) k ≡ some b
    → ((x ≡ a) × (y ≡ b)) ⊎ ((i : ℕ) × (get_elem? xs i ≡ some a) × (get_elem? ys i ≡ some b))
put_both (Err at) xs ys k x a y b e l p q = inserted_both xs ys at k x a y b e l p q
put_both (Ok at) xs ys k x a y b e l p q = ⊎_elim
    (λ (s : (k ≡ at) × (x ≡ a)). inl (
      s.1,
      ⊎_elim (λ (t : (k ≡ at) × (y ≡ b)). t.1)
          (λ (t : (k ≢ at) × (get_elem? ys k ≡ some b)). absurd (t.0 s.0))
          (at_set ys at k y b q),
    ))
    (λ (s : (k ≢ at) × (get_elem? xs k ≡ some a)). inr (
      k,
      s.1,
      ⊎_elim (λ (t : (k ≡ at) × (y ≡ b)). absurd (s.0 t.0))
          (λ (t : (k ≢ at) × (get_elem? ys k ≡ some b)). t.1) (at_set ys at k y b q),
    ))
    (at_set xs at k x a p)

-- how long a list is then
abbrev pub put_length : Result ℕ ℕ → ℕ → ℕ
put_length (Ok at) n = n
put_length (Err at) n = n + 1

pub length_put : {A : Type 0} (place : Result ℕ ℕ) (xs : List A) (x : A)
    → IsInRange place (length xs)
    → length (put_in xs place x) ≡ put_length place (length xs)
length_put (Ok at) xs x l = length-set xs at x
length_put (Err at) xs x l =
    omega (
      arith,
      length-append (take at xs) (x ∷ drop at xs),
      length-take-le at xs l,
      length-drop at xs,
    )

pub map_put : (place : Result ℕ ℕ) {A : Type 0} (f : A → Pair) (xs : List A) (x : A)
    → map f (put_in xs place x) ≡ placed (map f xs) place (f x)
map_put (Ok at) f xs x = map-set f xs at x
map_put (Err at) f xs x = map_inserted f xs at x

pub map_put_in : (place : Result ℕ ℕ) {A B : Type 0} (f : A → B) (xs : List A) (x : A)
    → map f (put_in xs place x) ≡ put_in (map f xs) place (f x)
map_put_in (Ok at) f xs x = map-set f xs at x
map_put_in (Err at) f xs x = map_inserted f xs at x

pub here_put : (place : Result ℕ ℕ) (xs : List ℕ) (x : ℕ) → IsInRange place (length xs)
    → IsIn x (put_in xs place x)
here_put (Ok at) xs x l = (at, there xs at (get_or xs at 0) x (elem_or xs at 0 l))
here_put (Err at) xs x l = here_inserted xs at x l
