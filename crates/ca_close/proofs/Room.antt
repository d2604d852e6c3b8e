-- There are no more objects under the root link than rows: their keys ascend, so no row is listed twice.
use Rattle.std.proofs.Common.{◌≡◌, ◌⊎◌, ℕ, zero, suc, ◌+◌, ◌-◌, ◌*◌, ◌<◌, ◌≤◌, Bool, true, false, ◌||◌, List, [], ◌∷◌, ◌++◌, length, get_or, eqb, sym, refl, ap, ◌∙◌, subst, inl, inr, ⊎_elim, arith, ne_eqb}
use Rattle.std.proofs.lemmas.Map.Steps.{length-le_from_distinct_below}
use Rattle.std.specs.List.{AllByRecursion, IsDistinct, list_any}
use Rattle.std.specs.declared.cmp.Ordering.TheVariants.{Less}
use Rattle.std.specs.Ordering.{is_lt}
use mathlib.Core.Logic.{dite}
use mathlib.Core.Option.{some, some-ne-none}
use native.Mathlib.Decide.{ℕ_discrete}
use Rattle.ca_term.proofs.Bytes.{bytes_itself}
use Rattle.ca_model.specs.History.{after}
use Rattle.ca_model.specs.StoreMap.{bytes_cmp, AreAbove, IsStoreMap}
use Rattle.ca_model.proofs.Edits.{map_after}
use Rattle.ca_rows.specs.declared.sizes.Sizes.{Sizes}
use Rattle.ca_rows.specs.Layout.{row_words}
use Rattle.ca_node.specs.LastTree.{rows_under}
use Rattle.ca_node.specs.Layout.{root_word}
use Rattle.ca_node.specs.Links.{IsIn}
use Rattle.ca_node.specs.Place.{all_keys}
use Rattle.ca_node.specs.Row.{row_at, key}
use Rattle.ca_node.proofs.Looking.{in_more}
use Rattle.ca_close.specs.Listing.{objects_of, AreInside, IsWalkable, IsListable}
use Rattle.ca_close.proofs.Walking.{IsBase, IsRoute, either_is, forks, ends}

-- What is in two lists together is in one of them.
in_both : (r : ℕ) (xs ys : List ℕ) → IsIn r (xs ++ ys) → IsIn r xs ⊎ IsIn r ys
in_both r [] ys i = inr i
in_both r (x ∷ xs) ys i = ⊎_elim (λ (e : x ≡ r). inl (0, ap some e))
    (λ o. ⊎_elim (λ (j : IsIn r xs). inl (suc j.0, j.1)) (λ j. inr j) (in_both r xs ys o))
    (in_more x r (xs ++ ys) i)

-- A key isn't less than itself.
not_less : (k : List ℕ) → bytes_cmp k k ≡ Less → ⊥
not_less k e = let no : true ≡ false = ap is_lt (sym e ∙ bytes_itself k) in cc

-- The rows of a map are distinct.
others : (words : List ℕ) (x : ℕ) (xs : List ℕ) → AreAbove (key (row_at words x)) (objects_of words xs) → AllByRecursion (λ y. eqb x y ≡ false) xs
others words x [] a = tt
others words x (y ∷ ys) a = (
  ne_eqb x y (λ e. not_less (key (row_at words x)) (subst (λ (r : ℕ). bytes_cmp (key (row_at words x)) (key (row_at words r)) ≡ Less) (sym e) a.0)),
  others words x ys a.1,
)

distinct : (words : List ℕ) (p : ℕ) (xs : List ℕ) → IsStoreMap p (objects_of words xs) → IsDistinct eqb xs
unfolding IsDistinct
distinct words p [] valid = tt
distinct words p (x ∷ xs) valid = (others words x xs valid.1, distinct words p xs valid.2)

from_zero : (xs : List ℕ) → ((q : ℕ) → IsIn q xs → 0 < q) → AllByRecursion (λ y. eqb 0 y ≡ false) xs
from_zero [] positive = tt
from_zero (x ∷ xs) positive = (
  ne_eqb 0 x (λ e. let lo = positive x (0, refl) in omega arith),
  from_zero xs (λ q i. positive q (suc i.0, i.1)),
)

with_zero : (xs : List ℕ) → ((q : ℕ) → IsIn q xs → 0 < q) → IsDistinct eqb xs → IsDistinct eqb (0 ∷ xs)
unfolding IsDistinct
with_zero xs positive d = (from_zero xs positive, d)

all_below : (n : ℕ) (xs : List ℕ) → ((q : ℕ) → IsIn q xs → q < n) → (q : ℕ) → list_any (eqb q) xs ≡ true → q < n
all_below n [] below q e = let no : false ≡ true = e in cc
all_below n (x ∷ xs) below q e = dite (ℕ_discrete q x)
    (λ same. subst (λ (r : ℕ). r < n) (sym same) (below x (0, refl)))
    (λ ne. all_below n xs (λ r i. below r (suc i.0, i.1)) q (sym (ap (λ (b : Bool). b || list_any (eqb q) xs) (ne_eqb q x ne)) ∙ e))

-- Numbers from 1 to n, each once, are n at most.
few_rows : (n : ℕ) (xs : List ℕ) → IsDistinct eqb xs → ((q : ℕ) → IsIn q xs → (0 < q) × (q ≤ n)) → length xs ≤ n
few_rows n xs d range = let more : length (0 ∷ xs) ≤ n + 1 = length-le_from_distinct_below (0 ∷ xs) (n + 1)
    (with_zero xs (λ q i. (range q i).0) d)
    (all_below (n + 1) (0 ∷ xs) (λ q i. ⊎_elim (λ (e : 0 ≡ q). omega arith) (λ o. let hi = (range q o).1 in omega arith) (in_more 0 q xs i))) in
    omega arith

-- The rows under a link are rows of the space.
pub listed_range : (z : Sizes) (words : List ℕ) (deep link : ℕ) → IsWalkable z words link deep → (r : ℕ) → IsIn r (rows_under deep words link)
    → (0 < r) × (r ≤ z.rows)
listed_range z words zero link w r i = absurd (some-ne-none r (sym i.1))
listed_range z words (suc deep) link w r i = let less : suc deep - 1 ≡ deep = omega arith in ⊎_elim
    (λ (b : IsBase z words link (suc deep) w).
    let e = ends z words link (suc deep) w (get_or words link 0) refl (λ f. let is = b.is_base in omega arith) in
    let named = b.are_objects r (subst (IsIn r) e.rows i) in (named.0, named.1))
    (λ (t : IsRoute z words link (suc deep) w).
    let row : ℕ = get_or words link 0 in
    let f = forks z words link (suc deep) w row refl t.1.is_route in
    let left = subst (IsWalkable z words (row_words * row + 1)) less f.left in
    let right = subst (IsWalkable z words (row_words * row + 2)) less f.right in
    ⊎_elim (λ o. listed_range z words deep (row_words * row + 1) left r o) (λ o. listed_range z words deep (row_words * row + 2) right r o)
    (in_both r (rows_under deep words (row_words * row + 1)) (rows_under deep words (row_words * row + 2))
    (subst (λ (d : ℕ). IsIn r (rows_under d words (row_words * row + 1) ++ rows_under d words (row_words * row + 2))) less
    (subst (IsIn r) f.rows i))))
    (either_is z words link (suc deep) w)

module _ (words : List ℕ) (levels room : ℕ) (t : IsListable words levels room) where
  -- From the root link all objects are listed.
  pub walks : IsWalkable t.z words root_word (levels + 1)
  walks = let few = t.levels_are in record {
    fit = t.fit;
    role = t.last.role;
    has = after t.last.history [];
    shape = t.last.shape;
    least = 0;
    span = all_keys;
    leads = t.last.shape.top;
    enough = omega arith;
  }

  abbrev pub all_rows : List ℕ
  all_rows = rows_under (levels + 1) words root_word

  deep_is : suc t.z.levels ≡ levels + 1
  deep_is = let e = t.levels_are in omega arith

  -- There is room for all of them.
  pub rooms : length all_rows ≤ room
  rooms = let enough = t.enough in
      let has : objects_of words all_rows ≡ after t.last.history [] =
      subst (λ (d : ℕ). objects_of words (rows_under d words root_word) ≡ after t.last.history []) deep_is t.last.has in
      let valid : IsStoreMap t.z.keypos (objects_of words all_rows) =
      subst (IsStoreMap t.z.keypos) (sym has) (map_after t.z.keypos t.last.history [] t.last.edits tt) in
      let few : length all_rows ≤ t.z.rows = few_rows t.z.rows all_rows (distinct words t.z.keypos all_rows valid)
      (listed_range t.z words (levels + 1) root_word walks) in
      omega arith

  pub all_inside : AreInside words all_rows
  all_inside r i = let range = listed_range t.z words (levels + 1) root_word walks r i in let hi = range.1 in let below = t.fit.below in
      let wide = t.last.shape.wide in record { below = omega arith; whole = omega arith }
