-- The bases on a chain that leads to the left are no more than there are rows: each row tells the next one, so none is on the chain twice.
use Rattle.std.proofs.Common.{◌≡◌, ◌≢◌, ℕ, suc, ◌<◌, ◌≤◌, List, [], ◌∷◌, length, map, sym, refl, ap, ◌∙◌, subst, ⊎_elim, arith}
use Rattle.std.proofs.lemmas.List.{length-map}
use mathlib.Core.Logic.{dite}
use mathlib.Core.Option.{some, none, some-ne-none}
use native.Mathlib.Decide.{ℕ_discrete}
use Rattle.ca_rows.specs.declared.kept.Kept.{Kept}
use Rattle.ca_rows.specs.Kept.{kept_of, AreApart}
use Rattle.ca_rows.proofs.Keeping.{else_is, as_many}
use Rattle.ca_node.specs.Links.{IsIn}
use Rattle.ca_node.specs.Ranging.{AreChained}
use Rattle.ca_node.specs.Row.{row_at, mark_back}
use Rattle.ca_node.specs.Shape.{Role}
use Rattle.ca_node.specs.True.{IsTrue}
use Rattle.ca_node.specs.TreeView.{Note}
use Rattle.ca_node.proofs.Looking.{in_more}

-- rows as a list of kept ones
abbrev as_kept : List Note → List Kept
as_kept notes = map (λ (n : Note). record { row = n.row; at = 0; form = 0 }) notes

none_of : (row : ℕ) (notes : List Note) → ((w : Note) → IsIn w notes → w.row ≢ row) → kept_of (as_kept notes) row ≡ none
none_of row [] other = refl
none_of row (x ∷ xs) other = else_is (record { row = x.row; at = 0; form = 0 }) (as_kept xs) row (other x (0, refl))
    ∙ none_of row xs (λ w i. other w (suc i.0, i.1))

some_of : (notes : List Note) (r t : ℕ) → kept_of (as_kept notes) r ≡ some t → (w : Note) × IsIn w notes × (w.row ≡ r)
some_of [] r t e = absurd (some-ne-none t (sym e))
some_of (x ∷ xs) r t e = dite (ℕ_discrete x.row r)
    (λ same. (x, (0, refl), same))
    (λ ne. let o = some_of xs r t (sym (else_is (record { row = x.row; at = 0; form = 0 }) (as_kept xs) r ne) ∙ e) in (o.0, (suc o.1.0, o.1.1), o.2))

module _ (rows : ℕ) (words : List ℕ) (role : ℕ → Role) where
  abbrev AreTrue : List Note → Type 0
  AreTrue notes = (w : Note) → IsIn w notes → IsTrue rows words role w

  -- A row tells how long the chain from it is.
  as_long : (xs ys : List Note) (row : ℕ) → AreChained row xs → AreChained row ys → AreTrue xs → AreTrue ys → length xs ≡ length ys
  as_long [] [] row a b one two = refl
  as_long [] (y ∷ ys) row a b one two = let l = b.1 in absurd (omega arith)
  as_long (x ∷ xs) [] row a b one two = let l = a.1 in absurd (omega arith)
  as_long (x ∷ xs) (y ∷ ys) row a b one two =
      let its : y.its ≡ x.its = sym (two y (0, refl)).spells ∙ (ap (row_at words) (b.0 ∙ sym a.0) ∙ (one x (0, refl)).spells) in
      ap suc (as_long xs ys (mark_back x.its) a.2 (subst (λ (t : List ℕ). AreChained (mark_back t) ys) its b.2)
      (λ w i. one w (suc i.0, i.1)) (λ w i. two w (suc i.0, i.1)))

  -- The chain from a base that is on it is shorter.
  record IsRest (xs : List Note) (w : Note) : Type 0 where
    rest : List Note
    chained : AreChained w.row (w ∷ rest)
    shorter : length rest < length xs
    are_true : AreTrue (w ∷ rest)

  rest_of : (xs : List Note) (row : ℕ) → AreChained row xs → AreTrue xs → (w : Note) → IsIn w xs → IsRest xs w
  rest_of [] row a all w i = absurd (some-ne-none w (sym i.1))
  rest_of (x ∷ xs) row a all w i = ⊎_elim
      (λ (e : x ≡ w). subst (IsRest (x ∷ xs)) e record {
        rest = xs;
        chained = (refl, subst (λ (n : ℕ). 0 < n) (sym a.0) a.1, a.2);
        shorter = omega arith;
        are_true = all;
      })
      (λ o. let r = rest_of xs (mark_back x.its) a.2 (λ v j. all v (suc j.0, j.1)) w o in let l = r.shorter in record {
        rest = r.rest;
        chained = r.chained;
        shorter = omega arith;
        are_true = r.are_true;
      })
      (in_more x w xs i)

  -- No base is on the chain twice.
  apart : (xs : List Note) (row : ℕ) → AreChained row xs → AreTrue xs → AreApart (as_kept xs)
  apart [] row a all = tt
  apart (x ∷ xs) row a all = (
    none_of x.row xs (λ w i e. let r = rest_of xs (mark_back x.its) a.2 (λ v j. all v (suc j.0, j.1)) w i in
        let long = as_long (x ∷ xs) (w ∷ r.rest) row a (subst (λ (n : ℕ). AreChained n (w ∷ r.rest)) (e ∙ a.0) r.chained) all r.are_true in
        let l = r.shorter in omega arith),
    apart xs (mark_back x.its) a.2 (λ v j. all v (suc j.0, j.1)),
  )

  pub few_chained : (xs : List Note) (row : ℕ) → AreChained row xs → AreTrue xs → length xs ≤ rows
  few_chained xs row a all = subst (λ n. n ≤ rows) (length-map xs (λ (n : Note). record { row = n.row; at = 0; form = 0 }))
      (as_many rows (as_kept xs) (apart xs row a all)
      (λ r t e. let o = some_of xs r t e in let is = all o.0 o.1 in let same = o.2 in let lo = is.some_row in let hi = is.in_range in
      (omega arith, omega arith)))
