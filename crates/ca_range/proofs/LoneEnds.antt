-- The own range of a pass that is alone ends: the row that said up to where it went is the tree's no more, and is kept.
use Rattle.std.proofs.Common.{◌≡◌, ◌≢◌, ◌⊎◌, ℕ, suc, ◌<◌, ◌≤◌, Bool, true, false, cond, List, [], ◌∷◌, ◌++◌, vec_len, refl, sym, ap, ◌∙◌, subst, inl, inr, ⊎_elim, eq-eqb, ne_eqb}
use mathlib.Core.Logic.{dite}
use mathlib.Core.Option.{some}
use native.Mathlib.Decide.{ℕ_discrete}
use Rattle.ca_base.specs.Counting.{KeepsMore}
use Rattle.ca_base.specs.Crowded.{StaysCrowded}
use Rattle.ca_base.specs.Taking.{AreHeld, lent_of}
use Rattle.ca_base.proofs.Rest.{is_one}
use Rattle.ca_node.specs.Endings.{without}
use Rattle.ca_node.specs.Inventory.{but, row_itself}
use Rattle.ca_node.specs.Links.{IsIn}
use Rattle.ca_node.specs.OwnRanges.{HasAborted}
use Rattle.ca_node.specs.Told.{MyTree}
use Rattle.ca_node.specs.TreeView.{Begun, Border, Inventory, Marking, Ranging, TreeView}
use Rattle.ca_node.proofs.Listing.{in_but}
use Rattle.ca_node.proofs.Looking.{in_more}
use Rattle.ca_rows.specs.declared.kept.Kept.{Kept}
use Rattle.ca_rows.specs.declared.kept.KeptRows.{KeptRows}
use Rattle.ca_rows.specs.declared.sizes.Sizes.{Sizes}
use Rattle.ca_rows.specs.declared.view.Claim.TheVariants.{Keeps}
use Rattle.ca_rows.specs.Claims.{claim_of}
use Rattle.ca_rows.specs.Kept.{kept_of}
use Rattle.ca_range.specs.Lonely.{IsOverAlone}
use Rattle.ca_range.proofs.LoneMarks.{keeps_one}

-- What isn't false is true.
pub by_cases : (b : Bool) → ¬ (b ≡ false) → b ≡ true
by_cases true n = refl
by_cases false n = absurd (n refl)

-- A row that was kept behind the others is one of the list.
kept_last : (ks : List Kept) (x : Kept) → (t : ℕ) × (kept_of (ks ++ x ∷ []) x.row ≡ some t)
kept_last [] x = (x.at, ap (λ b. cond b (some x.at) (kept_of [] x.row)) (eq-eqb x.row x.row refl))
kept_last (k ∷ ks) x = let rest = kept_last ks x in dite (ℕ_discrete k.row x.row)
    (λ (same : k.row ≡ x.row). (k.at, ap (λ b. cond b (some k.at) (kept_of (ks ++ x ∷ []) x.row)) (eq-eqb k.row x.row same)))
    (λ (n : k.row ≢ x.row). (rest.0, ap (λ b. cond b (some k.at) (kept_of (ks ++ x ∷ []) x.row)) (ne_eqb k.row x.row n) ∙ rest.1))

-- So the pass keeps it.
retired_kept : (rows form row : ℕ) (kept kept' : KeptRows) (n : MyTree) → KeepsMore form (row ∷ []) kept.rows.items kept'.rows.items
    → AreHeld rows kept'.rows n.0 [] → (t : ℕ) × (claim_of n.0.claims row ≡ some (Keeps t))
retired_kept rows form row kept kept' n more h = let it : Kept = record { row = row; at = more.0; form = form } in let last = kept_last kept.rows.items it in
    let own = h.0.are_kept.are.are_claimed row last.0 (ap (λ (ks : List Kept). kept_of ks row) more.1 ∙ last.1) in (last.0, own.2)

-- A row that the tree has no more is kept: all rows but the same others are the tree's, or are kept.
pub crowd_without : (row : ℕ) (m k n : MyTree) → k.0.sizes ≡ m.0.sizes → k.0.claims ≡ m.0.claims
    → (k.0.upper.inventory.rows ≡ but row_itself row m.0.upper.inventory.rows) ⊎ (k.0.upper.inventory.rows ≡ m.0.upper.inventory.rows)
    → StaysCrowded k n → n.0.sizes ≡ k.0.sizes → ((t : ℕ) × (claim_of n.0.claims row ≡ some (Keeps t))) → StaysCrowded m n
crowd_without row m k n sizes claims tree stays sizes' own others all r lo hi = ⊎_elim (λ i. inl i)
    (λ (o : ((at : ℕ) × (claim_of n.0.claims r ≡ some (Keeps at))) ⊎ IsIn r (row ∷ others)). inr (⊎_elim (λ i. inl i)
    (λ (i : IsIn r (row ∷ others)). ⊎_elim
    (λ (e : row ≡ r). inl (subst (λ (x : ℕ). (t : ℕ) × (claim_of n.0.claims x ≡ some (Keeps t))) e own))
    (λ (j : IsIn r others). inr j) (in_more row r others i)) o))
    (stays (row ∷ others) before r lo hi)
  where
    before : (x : ℕ) → 0 < x → x ≤ k.0.sizes.rows → IsIn x k.0.upper.inventory.rows
        ⊎ (((at : ℕ) × (claim_of k.0.claims x ≡ some (Keeps at))) ⊎ IsIn x (row ∷ others))
    before x low high = dite (ℕ_discrete x row)
        (λ (e : x ≡ row). inr (inr (0, ap some (sym e))))
        (λ (ne : x ≢ row). ⊎_elim
        (λ (i : IsIn x m.0.upper.inventory.rows). inl (⊎_elim
        (λ (e : k.0.upper.inventory.rows ≡ but row_itself row m.0.upper.inventory.rows).
        subst (IsIn x) (sym e) (in_but row_itself row m.0.upper.inventory.rows x i ne))
        (λ (e : k.0.upper.inventory.rows ≡ m.0.upper.inventory.rows). subst (IsIn x) (sym e) i) tree))
        (λ (o : ((at : ℕ) × (claim_of m.0.claims x ≡ some (Keeps at))) ⊎ IsIn x others). inr (⊎_elim
        (λ (c : (at : ℕ) × (claim_of m.0.claims x ≡ some (Keeps at))). inl (c.0, ap (λ cs. claim_of cs x) claims ∙ c.1))
        (λ (j : IsIn x others). inr (suc j.0, j.1)) o))
        (all x low (subst (λ (y : Sizes). x ≤ y.rows) sizes high)))

module _ (z : Sizes) (rows : ℕ) (begun : Begun) (border : Border) (m k n : MyTree) (own : m.0.upper.ranges.own ≡ Marking begun border) where
  -- It was given up, whether that was won or not.
  pub gave_up_crowd : (won : Bool) (form : ℕ) (kept kept' : KeptRows) → HasAborted won begun border m k → StaysCrowded k n → n.0.sizes ≡ k.0.sizes
      → KeepsMore form (border.row ∷ []) kept.rows.items kept'.rows.items → AreHeld rows kept'.rows n.0 [] → StaysCrowded m n
  gave_up_crowd true form kept kept' d stays sizes more h = crowd_without border.row m k n (ap (λ (x : MyTree). x.0.sizes) d)
      (ap (λ (x : MyTree). x.0.claims) d) (inl (ap (λ (x : MyTree). x.0.upper.inventory.rows) d)) stays sizes (retired_kept rows form border.row kept kept' n more h)
  gave_up_crowd false form kept kept' d stays sizes more h = crowd_without border.row m k n (ap (λ (x : MyTree). x.0.sizes) d)
      (ap (λ (x : MyTree). x.0.claims) d) (inr (ap (λ (x : MyTree). x.0.upper.inventory.rows) d)) stays sizes (retired_kept rows form border.row kept kept' n more h)

  -- The tree lacks that row then, and it is kept.
  pub over_alone : (form : ℕ) (kept kept' : KeptRows) → k.0.upper.inventory ≡ without border.row m.0.upper.inventory → n.0.upper ≡ k.0.upper
      → KeepsMore form (border.row ∷ []) kept.rows.items kept'.rows.items → IsOverAlone (vec_len kept.rows) (vec_len kept'.rows) m.0.upper n.0.upper
  over_alone form kept kept' tree same more = record {
    bases = ap (λ (u : TreeView). u.inventory.bases) same ∙ ap (λ (i : Inventory). i.bases) tree;
    fewer = λ row i. ap (λ (u : TreeView). u.inventory.rows) same ∙ (ap (λ (x : Inventory). x.rows) tree
        ∙ ap (λ (r : ℕ). (without r m.0.upper.inventory).rows) (is_one row border.row (subst (λ (r : Ranging). IsIn row (lent_of r)) own i)));
    keeps = keeps_one form border.row kept kept' more;
  }
