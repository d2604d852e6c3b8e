-- How many of some objects a function answers true on: in two parts, and object by object.
use Rattle.std.proofs.Common.{◌≡◌, ◌≢◌, ℕ, zero, suc, ◌+◌, ◌-◌, ◌<◌, ◌≤◌, List, [], ◌∷◌, ◌++◌, Bool, true, false, length, map, take, drop, get_or, sym, refl, ap, ◌∙◌, subst, inl, inr, ⊎_elim, arith}
use Rattle.std.proofs.lemmas.List.{get_or-map, length-map}
use Rattle.std.specs.Prelude.{slice_range}
use mathlib.Core.Logic.{dite}
use native.Mathlib.Decide.{ℕ_discrete}
use denote.Ref.{Bor}
use denote.Param.Members.{Shared}
use Rattle.ca_model.specs.Edges.{objects_of}
use Rattle.ca_model.specs.Function.{MaySay}
use Rattle.ca_model.specs.Runs.{HasCounted}
use Rattle.ca_model.specs.Slab.{nothing}
use Rattle.ca_model.specs.StoreMap.{IsPair, IsStoreMap}
use Rattle.ca_model.proofs.Spots.{pair_there}
use Rattle.ca_node.specs.Row.{pair}
use Rattle.ca_range.specs.Counted.{IsCountOf}

module _ {F : Type 0} (g : Shared F (Bor (List ℕ) × Unit {0}) Bool) (f : F) where
  -- What was counted in the second one of two parts was counted in both,
  pub counted_behind : (n : ℕ) (first second : List (List ℕ)) → HasCounted g f n second → HasCounted g f n (first ++ second)
  counted_behind zero first second h = tt
  counted_behind (suc n) [] second h = h
  counted_behind (suc n) (o ∷ first) second h = inr (counted_behind (suc n) first second h)

  -- and what was in the first one,
  pub counted_before : (n : ℕ) (first second : List (List ℕ)) → HasCounted g f n first → HasCounted g f n (first ++ second)
  counted_before zero first second h = tt
  counted_before (suc n) [] second h = absurd h
  counted_before (suc n) (o ∷ first) second h = ⊎_elim
      (λ (a : MaySay g f o true × HasCounted g f n first). inl (a.0, counted_before n first second a.1))
      (λ (b : HasCounted g f (suc n) first). inr (counted_before (suc n) first second b))
      h

  -- and together they are so many.
  pub counted_both : (a b : ℕ) (first second : List (List ℕ)) → HasCounted g f a first → HasCounted g f b second → HasCounted g f (a + b) (first ++ second)
  counted_both zero b first second h k = let none : 0 + b ≡ b = omega arith in
      subst (λ (n : ℕ). HasCounted g f n (first ++ second)) (sym none) (counted_behind b first second k)
  counted_both (suc a) b [] second h k = absurd h
  counted_both (suc a) b (o ∷ first) second h k = let more : suc a + b ≡ suc (a + b) = omega arith in ⊎_elim
      (λ (x : MaySay g f o true × HasCounted g f a first).
      subst (λ (n : ℕ). HasCounted g f n (o ∷ (first ++ second))) (sym more) (inl (x.0, counted_both a b first second x.1 k)))
      (λ (y : HasCounted g f (suc a) first). subst (λ (n : ℕ). HasCounted g f n (o ∷ (first ++ second))) (sym more)
      (inr (subst (λ (n : ℕ). HasCounted g f n (first ++ second)) more (counted_both (suc a) b first second y k))))
      h

  -- As many as it was true on were counted.
  pub count_counted : (n : ℕ) (objects : List (List ℕ)) → IsCountOf g f n objects → HasCounted g f n objects
  count_counted n [] h = subst (λ (k : ℕ). HasCounted g f k []) (sym h) tt
  count_counted n (o ∷ objects) h = ⊎_elim
      (λ (a : MaySay g f o false × IsCountOf g f n objects). skip n (count_counted n objects a.1))
      (λ (b : (m : ℕ) × (n ≡ suc m) × MaySay g f o true × IsCountOf g f m objects).
      subst (λ (k : ℕ). HasCounted g f k (o ∷ objects)) (sym b.1) (inl (b.2, count_counted b.0 objects b.3)))
      h
    where
      skip : (n : ℕ) → HasCounted g f n objects → HasCounted g f n (o ∷ objects)
      skip zero h = tt
      skip (suc n) h = inr h

  -- One object more, on which it answers false, or true.
  pub count_false : (n : ℕ) (objects : List (List ℕ)) (o : List ℕ) → IsCountOf g f n objects → MaySay g f o false → IsCountOf g f n (objects ++ o ∷ [])
  count_false n [] o h s = inl (s, h)
  count_false n (x ∷ objects) o h s = ⊎_elim
      (λ (a : MaySay g f x false × IsCountOf g f n objects). inl (a.0, count_false n objects o a.1 s))
      (λ (b : (m : ℕ) × (n ≡ suc m) × MaySay g f x true × IsCountOf g f m objects). inr (b.0, b.1, b.2, count_false b.0 objects o b.3 s))
      h

  pub count_true : (n : ℕ) (objects : List (List ℕ)) (o : List ℕ) → IsCountOf g f n objects → MaySay g f o true
      → IsCountOf g f (suc n) (objects ++ o ∷ [])
  count_true n [] o h s = inr (n, refl, s, h)
  count_true n (x ∷ objects) o h s = ⊎_elim
      (λ (a : MaySay g f x false × IsCountOf g f n objects). inl (a.0, count_true n objects o a.1 s))
      (λ (b : (m : ℕ) × (n ≡ suc m) × MaySay g f x true × IsCountOf g f m objects).
      inr (suc b.0, ap suc b.1, b.2, count_true b.0 objects o b.3 s))
      h

-- the objects from one place on, before another one
abbrev pub part_of : List (List ℕ) → ℕ → ℕ → List (List ℕ)
part_of objects from end = objects_of (slice_range (map pair objects) from end)

pub part_empty : (objects : List (List ℕ)) (from end : ℕ) → end ≤ from → part_of objects from end ≡ []
part_empty objects from end l = let none : end - from ≡ 0 = omega arith in ap (λ (n : ℕ). objects_of (take n (drop from (map pair objects)))) none

-- One more of them is the next one behind them.
taken_more : (objects : List (List ℕ)) (end : ℕ) → end < length objects
    → objects_of (take (end + 1) (map pair objects)) ≡ objects_of (take end (map pair objects)) ++ (pair (get_or objects end [])).1 ∷ []
taken_more [] end high = absurd (omega arith)
taken_more (o ∷ objects) zero high = refl
taken_more (o ∷ objects) (suc end) high = let s : suc end + 1 ≡ suc (end + 1) = omega arith in
    ap (λ (n : ℕ). objects_of (take n (map pair (o ∷ objects)))) s
    ∙ ap (λ (os : List (List ℕ)). (pair o).1 ∷ os) (taken_more objects end (omega arith))

pub part_more : (objects : List (List ℕ)) (from end : ℕ) → from ≤ end → end < length objects
    → part_of objects from (end + 1) ≡ part_of objects from end ++ (pair (get_or objects end [])).1 ∷ []
part_more [] from end low high = absurd (omega arith)
part_more (o ∷ objects) zero end low high = let long : end + 1 - 0 ≡ end + 1 = omega arith in let short : end ≡ end - 0 = omega arith in
    ap (λ (n : ℕ). objects_of (take n (map pair (o ∷ objects)))) long
    ∙ (taken_more (o ∷ objects) end high
    ∙ ap (λ (n : ℕ). objects_of (take n (map pair (o ∷ objects))) ++ (pair (get_or (o ∷ objects) end [])).1 ∷ []) short)
part_more (o ∷ objects) (suc from) zero low high = absurd (omega arith)
part_more (o ∷ objects) (suc from) (suc end) low high = let long : suc end + 1 - suc from ≡ end + 1 - from = omega arith in
    let short : end - from ≡ suc end - suc from = omega arith in
    ap (λ (n : ℕ). objects_of (take n (drop from (map pair objects)))) long
    ∙ (part_more objects from end (omega arith) (omega arith)
    ∙ ap (λ (n : ℕ). objects_of (take n (drop from (map pair objects))) ++ (pair (get_or objects end [])).1 ∷ []) short)

-- Up to a later place there are those up to this one, and others behind them.
taken_longer : (objects : List (List ℕ)) (a b : ℕ) → a ≤ b
    → (rest : List (List ℕ)) × (objects_of (take b (map pair objects)) ≡ objects_of (take a (map pair objects)) ++ rest)
taken_longer objects zero b l = (objects_of (take b (map pair objects)), refl)
taken_longer [] (suc a) zero l = absurd (omega arith)
taken_longer [] (suc a) (suc b) l = ([], refl)
taken_longer (o ∷ objects) (suc a) zero l = absurd (omega arith)
taken_longer (o ∷ objects) (suc a) (suc b) l = let r = taken_longer objects a b (omega arith) in
    (r.0, ap (λ (os : List (List ℕ)). (pair o).1 ∷ os) r.1)

pub part_longer : (objects : List (List ℕ)) (from place end : ℕ) → place ≤ end
    → (rest : List (List ℕ)) × (part_of objects from end ≡ part_of objects from place ++ rest)
part_longer objects zero place end l = let long : end - 0 ≡ end = omega arith in let short : place - 0 ≡ place = omega arith in
    let r = taken_longer objects place end l in (
      r.0,
      ap (λ (n : ℕ). objects_of (take n (map pair objects))) long
          ∙ (r.1 ∙ ap (λ (n : ℕ). objects_of (take n (map pair objects)) ++ r.0) (sym short)),
    )
part_longer [] (suc from) place end l = let r = taken_longer [] (place - suc from) (end - suc from) (omega arith) in (r.0, r.1)
part_longer (o ∷ objects) (suc from) place end l = let long : end - suc from ≡ (end - 1) - from = omega arith in
    let short : place - suc from ≡ (place - 1) - from = omega arith in
    let r = part_longer objects from (place - 1) (end - 1) (omega arith) in (
      r.0,
      ap (λ (n : ℕ). objects_of (take n (drop from (map pair objects)))) long
          ∙ (r.1 ∙ ap (λ (n : ℕ). objects_of (take n (drop from (map pair objects))) ++ r.0) (sym short)),
    )

-- The object at a place is one of a store map.
pub is_pair : (keypos : ℕ) (objects : List (List ℕ)) (place : ℕ) → IsStoreMap keypos (map pair objects) → place < length objects
    → IsPair keypos (pair (get_or objects place []))
is_pair keypos objects place ordered l = let long = length-map objects pair in
    subst (IsPair keypos) (get_or-map pair objects place [] nothing l) (pair_there keypos (map pair objects) place ordered (omega arith))

-- Where no place is left, or none was there at first, that is all.
pub part_end : (objects : List (List ℕ)) (from place end : ℕ) → (from ≤ end → place ≤ end) → (end ≤ from → place ≤ from) → end ≤ place
    → part_of objects from end ≡ part_of objects from place
part_end objects from place end up none low = ap (λ (n : ℕ). objects_of (take n (drop from (map pair objects)))) same
  where
    same : end - from ≡ place - from
    same = dite (ℕ_discrete (end - from) 0)
        (λ (e : end - from ≡ 0). let short : end ≤ from = omega (arith, e) in let l = none short in omega arith)
        (λ (n : end - from ≢ 0). let long : from ≤ end = omega (arith, n) in let l = up long in omega arith)
