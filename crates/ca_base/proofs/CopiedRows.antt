-- A copy took a base's place: which rows the pass has then.
use Rattle.std.proofs.Common.{◌≡◌, ℕ, List, [], ◌∷◌, sym, refl, subst, arith}
use mathlib.Core.Option.{none}
use Rattle.ca_node.specs.Copies.{Copy, IsCopied}
use Rattle.ca_base.specs.Finding.{IsBaseShown}
use Rattle.ca_node.specs.Laws.{in_nothing}
use Rattle.ca_node.specs.Told.{MyTree, given, taken_out}
use Rattle.ca_node.specs.TreeView.{KnownRanges, Ranging, TreeView}
use Rattle.ca_node.proofs.HeldRows.{given_fewer, taken_out_more}
use Rattle.ca_base.specs.Putting.{first_note}
use Rattle.ca_base.specs.Taking.{AreHeld, HasTakenOut, AreUnlinked, lent_of}
use Rattle.ca_base.proofs.Rest.{is_one}
use Rattle.ca_base.proofs.Unlinking.{few_at_once, unlinked_then}
use Rattle.ca_rows.specs.Claims.{claim_of}
use Rattle.ca_rows.specs.declared.kept.KeptRows.{KeptRows}
use Rattle.ca_rows.specs.declared.sizes.Sizes.{Sizes}

-- The base that was shown last was shown still, where the same is known of the tree.
pub shown_still : (z : Sizes) (m m' : MyTree) (base : ℕ) → m'.0.upper ≡ m.0.upper → IsBaseShown z m.0.upper base (first_note m.0.upper.notes)
    → IsBaseShown z m'.0.upper base (first_note m.0.upper.notes)
shown_still z m m' base same shown = subst (λ (u : TreeView). IsBaseShown z u base (first_note m.0.upper.notes)) (sym same) shown

-- After the exchange the old base is unlinked, and the pass has no other row.
pub copied_rows : (rows : ℕ) (kept kept' : KeptRows) (m m' : MyTree) (ranges : KnownRanges) (new : ℕ) (x : Copy) (base : ℕ) → x.old.row ≡ base
    → ranges.own ≡ m.0.upper.ranges.own → IsCopied [] ranges new x m m' → kept' ≡ kept → AreHeld rows kept.rows m.0 (new ∷ [])
    → AreUnlinked rows kept'.rows m'.0 (base ∷ [])
copied_rows rows kept kept' m m' ranges new x base same own d too h =
    let comes : List ℕ = new ∷ [] in let goes : List ℕ = x.old.row ∷ [] in
    let then = unlinked_then rows kept.rows m.0.claims (lent_of m.0.upper.ranges.own) comes goes h.0
    (λ r i. subst (λ (y : ℕ). claim_of m.0.claims y ≡ none) (is_one r x.old.row i) d.unclaimed) in
    let came = given_fewer comes m.0.claims (in_nothing new [] refl, tt) (λ r i. let own = (h.0.each r i).2 in (own.0, own.2)) in
    let went = taken_out_more goes (given comes m.0.claims) in
    let before = h.1.now in let ever = h.1.ever in
    let now = subst (λ (y : MyTree × KeptRows). AreUnlinked rows y.1.rows y.0.0 goes)
    (λ i. (sym d.now i, sym too i)) (
      subst (λ (r : Ranging). HasTakenOut rows kept.rows (taken_out goes (given comes m.0.claims)) (lent_of r) goes) (sym own) then,
      record {
        now = omega arith;
        ever = few_at_once goes (given comes m.0.claims) m.0.most ever (omega arith);
      },
    ) in
    subst (λ (y : ℕ). AreUnlinked rows kept'.rows m'.0 (y ∷ [])) same now
