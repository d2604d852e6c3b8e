-- The row that a pass lends to its own range: it is lent as the first base is marked, and retired once the range is over.
use Rattle.std.proofs.Common.{◌≡◌, ℕ, ◌≤◌, List, [], ◌∷◌, Vec, sym, refl, ap, ◌∙◌, subst, inl, inr, ⊎_elim, arith}
use Rattle.std.specs.Global.{Global}
use mathlib.Core.Logic.{dite}
use mathlib.Core.Option.{some, none, some-injective, some-ne-none}
use native.Mathlib.Decide.{ℕ_discrete}
use Rattle.ca_node.specs.Laws.{in_nothing}
use Rattle.ca_node.specs.Links.{IsIn}
use Rattle.ca_node.specs.Told.{MyTree, given, taken_out}
use Rattle.ca_node.specs.TreeView.{Begun, Border, Marking, Quiet}
use Rattle.ca_node.proofs.Looking.{in_more}
use Rattle.ca_node.proofs.Members.{in_first, in_rest, has, given_here, given_else, taken_here, taken_else}
use Rattle.ca_base.specs.Taking.{AreHeld, HasHeld, HasLent, HasTakenOut, lent_of}
use Rattle.ca_base.proofs.Rest.{is_one}
use Rattle.ca_base.proofs.Unlinking.{unlinked_then}
use Rattle.ca_rows.specs.declared.kept.Kept.{Kept}
use Rattle.ca_rows.specs.declared.kept.KeptRows.{KeptRows}
use Rattle.ca_rows.specs.declared.view.Claim.TheVariants.{Holds, Lends, Keeps}
use Rattle.ca_rows.specs.declared.view.Claimed.{Claimed}
use Rattle.ca_rows.specs.Claims.{claim_of, claimed, held_count}
use Rattle.ca_rows.specs.Kept.{AreKept}
use Rattle.ca_rows.proofs.Claiming.{claimed_here, claimed_else}
use Rattle.ca_rows.proofs.HeldCount.{claimed_no_more}
use Rattle.ca_rows.proofs.Keeping.{claimed_too, kept_as}

-- The row that was lent is retired: the seat has no rows any more but those that it keeps.
retired_lent : (rows : ℕ) (kept kept' : Vec Kept Global) (claims : List Claimed) (row t : ℕ) → AreKept rows (claimed row (Keeps t) claims) kept'
    → HasHeld rows kept claims (row ∷ []) [] → HasHeld rows kept' (claimed row (Keeps t) claims) [] []
retired_lent rows kept kept' claims row t k h = record {
  are_kept = k;
  only = λ r c e. dite (ℕ_discrete r row)
      (λ (f : r ≡ row). inl (
        t,
        some-injective c (Keeps t) (sym e ∙ (ap (claim_of (claimed row (Keeps t) claims)) f ∙ claimed_here claims row (Keeps t))),
      ))
      (λ n. ⊎_elim (λ y. inl y)
      (λ is. ⊎_elim (λ (i : IsIn r []). inr (inl i)) (λ (l : IsIn r (row ∷ [])). absurd (n (sym (is_one r row l)))) is)
      (h.only r c (sym (claimed_else claims row r (Keeps t) n) ∙ e)));
  each = λ r i. absurd (in_nothing r [] refl i);
  lends = λ r i. absurd (in_nothing r [] refl i);
}

-- By what retiring told.
pub retired_border : (rows : ℕ) (kept kept' : Vec Kept Global) (m m' : MyTree) (row t : ℕ)
    → m' ≡ (record m.0 { claims = claimed row (Keeps t) m.0.claims }, m.1) → AreKept rows m'.0.claims kept'
    → m.0.upper.ranges.own ≡ Quiet → HasLent rows kept m.0 row → AreHeld rows kept' m'.0 []
retired_border rows kept kept' m m' row t told k quiet h = let less = claimed_no_more row (Keeps t) m.0.claims refl in
    let now = h.1.now in let ever = h.1.ever in
    subst (λ (x : MyTree). AreHeld rows kept' x.0 []) (sym told) (
      subst (λ (lent : List ℕ). HasHeld rows kept' (claimed row (Keeps t) m.0.claims) lent []) (sym (ap lent_of quiet))
          (retired_lent rows kept kept' m.0.claims row t (subst (λ (x : MyTree). AreKept rows x.0.claims kept') told k) h.0),
      record { now = omega arith; ever = ever },
    )

-- Where the seat's own range is over, whose border it lent, it lends that row still.
pub lent_after : (rows : ℕ) (kept kept' : KeptRows) (m m' : MyTree) (begun : Begun) (border : Border) → m.0.upper.ranges.own ≡ Marking begun border
    → m'.0.claims ≡ m.0.claims → m'.0.most ≤ 8 → kept' ≡ kept → AreHeld rows kept.rows m.0 [] → HasLent rows kept'.rows m'.0 border.row
lent_after rows kept kept' m m' begun border own claims most same h = (
  subst (λ (x : KeptRows × List Claimed × List ℕ). HasHeld rows x.0.rows x.1 x.2 []) (λ i. (sym same i, sym claims i, ap lent_of own i)) h.0,
  record { now = subst (λ (x : List Claimed). held_count x ≤ 0) (sym claims) h.1.now; ever = most },
)

-- A row that was held is lent.
lent_first : (rows : ℕ) (kept : Vec Kept Global) (claims : List Claimed) (lent held : List ℕ) (row : ℕ) → ¬ IsIn row held
    → HasHeld rows kept claims lent (row ∷ held) → HasHeld rows kept (claimed row Lends claims) (row ∷ lent) held
lent_first rows kept claims lent held row out h = let own = (h.each row (in_first row held)).2 in record {
  are_kept = claimed_too rows claims kept h.are_kept row Lends (λ t e. cc) (λ t e. holds_else own.0 t own.2 e);
  only = λ r c e. dite (ℕ_discrete r row) (λ (f : r ≡ row). inr (inr (0, ap some (sym f))))
      (λ n. ⊎_elim (λ k. inl k)
      (λ is. inr (⊎_elim (λ (i : IsIn r (row ∷ held)). inl (⊎_elim (λ (f : row ≡ r). absurd (n (sym f))) (λ (j : IsIn r held). j) (in_more row r held i)))
      (λ (l : IsIn r lent). inr (in_rest r row lent l)) is))
      (h.only r c (sym (claimed_else claims row r Lends n) ∙ e)));
  each = λ r i. let w = h.each r (in_rest r row held i) in (
    w.0,
    w.1,
    (w.2.0, w.2.1, claimed_else claims row r Lends (λ f. out (subst (λ (y : ℕ). IsIn y held) f i)) ∙ w.2.2),
  );
  lends = λ r i. dite (ℕ_discrete r row) (λ (f : r ≡ row). ap (claim_of (claimed row Lends claims)) f ∙ claimed_here claims row Lends)
      (λ n. claimed_else claims row r Lends n ∙ h.lends r (⊎_elim (λ (f : row ≡ r). absurd (n (sym f))) (λ (j : IsIn r lent). j) (in_more row r lent i)));
}
  where
    holds_else : (its : List ℕ) (t : ℕ) → claim_of claims row ≡ some (Holds its) → claim_of claims row ≡ some (Keeps t) → ⊥
    holds_else its t e f = let same = some-injective (Holds its) (Keeps t) (sym e ∙ f) in absurd cc

-- Claims that say the same of each row are as good.
same_unlinked : (rows : ℕ) (kept : Vec Kept Global) (claims claims' : List Claimed) (lent out : List ℕ)
    → ((r : ℕ) → claim_of claims' r ≡ claim_of claims r) → HasTakenOut rows kept claims lent out → HasTakenOut rows kept claims' lent out
same_unlinked rows kept claims claims' lent out same h = record {
  are_kept = kept_as rows claims kept h.are_kept claims' (λ r t e. sym (same r) ∙ e) (λ r t e. same r ∙ e);
  only = λ r c e. h.only r c (sym (same r) ∙ e);
  each = λ r i. same r ∙ h.each r i;
  lends = λ r i. same r ∙ h.lends r i;
}

module _ (ins outs : List ℕ) (claims : List Claimed) (row : ℕ) (not_in : ¬ IsIn row ins) (not_out : ¬ IsIn row outs) where
  -- Whether the row is lent first or last is the same to each row.
  lent_whenever : (r : ℕ) → claim_of (claimed row Lends (taken_out outs (given ins claims))) r ≡ claim_of (taken_out outs (given ins
      (claimed row Lends claims))) r
  lent_whenever r = dite (ℕ_discrete r row)
      (λ (f : r ≡ row). ap (claim_of (claimed row Lends (taken_out outs (given ins claims)))) f ∙ (claimed_here (taken_out outs (given ins claims)) row Lends
      ∙ (sym (taken_else outs (given ins (claimed row Lends claims)) row not_out ∙ (given_else ins (claimed row Lends claims) row not_in
      ∙ claimed_here claims row Lends)) ∙ ap (claim_of (taken_out outs (given ins (claimed row Lends claims)))) (sym f))))
      (λ n. claimed_else (taken_out outs (given ins claims)) row r Lends n ∙ ⊎_elim
      (λ (o : IsIn r outs). taken_here outs (given ins claims) r o ∙ sym (taken_here outs (given ins (claimed row Lends claims)) r o))
      (λ (o : ¬ IsIn r outs). taken_else outs (given ins claims) r o ∙ (⊎_elim
      (λ (i : IsIn r ins). given_here ins claims r i ∙ sym (given_here ins (claimed row Lends claims) r i))
      (λ (i : ¬ IsIn r ins). given_else ins claims r i ∙ (sym (claimed_else claims row r Lends n) ∙ sym (given_else ins (claimed row Lends claims) r i)))
      (has ins r) ∙ sym (taken_else outs (given ins (claimed row Lends claims)) r o)))
      (has outs r))

-- Of the rows that the seat held one is lent, and the others came, and others went that nobody claimed: those it has unlinked.
pub unlinked_lending : (rows : ℕ) (kept : Vec Kept Global) (claims : List Claimed) (lent ins outs : List ℕ) (row : ℕ) → ¬ IsIn row ins
    → HasHeld rows kept claims lent (row ∷ ins) → ((r : ℕ) → IsIn r outs → claim_of claims r ≡ none)
    → HasTakenOut rows kept (claimed row Lends (taken_out outs (given ins claims))) (row ∷ lent) outs
unlinked_lending rows kept claims lent ins outs row not_in h free = let own = (h.each row (in_first row ins)).2 in
    let not_out : ¬ IsIn row outs = λ o. some-ne-none (Holds own.0) (sym own.2 ∙ free row o) in
    same_unlinked rows kept (taken_out outs (given ins (claimed row Lends claims))) (claimed row Lends (taken_out outs (given ins claims))) (row ∷ lent) outs
    (lent_whenever ins outs claims row not_in not_out)
    (unlinked_then rows kept (claimed row Lends claims) (row ∷ lent) ins outs (lent_first rows kept claims lent ins row not_in h)
    (λ r o. claimed_else claims row r Lends (λ f. not_out (subst (λ (y : ℕ). IsIn y outs) f o)) ∙ free r o))
