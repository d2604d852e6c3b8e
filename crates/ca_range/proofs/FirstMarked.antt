-- The rows of a pass that marked the first base of its own range: it lends the row that says up to where the range goes, and unlinked the old base.
use Rattle.std.proofs.Common.{◌≡◌, ◌≢◌, ℕ, List, [], ◌∷◌, sym, refl, ap, ◌∙◌, subst, arith}
use mathlib.Core.Option.{some, none, some-ne-none}
use Rattle.ca_node.specs.Copies.{Copy, IsCopied, marking_now}
use Rattle.ca_node.specs.Laws.{in_nothing}
use Rattle.ca_node.specs.Links.{IsIn}
use Rattle.ca_node.specs.Told.{MyTree, given, taken_out}
use Rattle.ca_node.specs.TreeView.{Begun, Unmarked}
use Rattle.ca_node.proofs.HeldRows.{given_fewer, taken_out_more}
use Rattle.ca_node.proofs.Members.{given_else, in_first, in_rest, taken_else}
use Rattle.ca_base.specs.Taking.{AreHeld, AreUnlinked, HasTakenOut, lent_of}
use Rattle.ca_base.proofs.Held.{either_first}
use Rattle.ca_base.proofs.LentRows.{unlinked_lending}
use Rattle.ca_base.proofs.Rest.{is_one}
use Rattle.ca_rows.specs.Claims.{claim_of, claimed}
use Rattle.ca_rows.specs.declared.kept.KeptRows.{KeptRows}
use Rattle.ca_rows.specs.declared.view.Claim.TheVariants.{Holds, Lends}
use Rattle.ca_rows.proofs.HeldCount.{claimed_one_less}

-- The copy and the row that says up to where the range goes were held. Then the old base is unlinked, that row is lent, and the pass has no other row.
pub first_rows : (rows : ℕ) (kept kept' : KeptRows) (m m' : MyTree) (new : ℕ) (x : Copy) (begun : Begun) (its : List ℕ) (base : ℕ) → x.old.row ≡ base
    → m.0.upper.ranges.own ≡ Unmarked begun → new ≢ begun.top → IsCopied (begun.top ∷ []) (marking_now m.0.upper.ranges begun its) new x m m'
    → kept' ≡ kept → AreHeld rows kept.rows m.0 (new ∷ begun.top ∷ []) → AreUnlinked rows kept'.rows m'.0 (base ∷ [])
first_rows rows kept kept' m m' new x begun its base same own apart d too h =
    let comes : List ℕ = new ∷ [] in let goes : List ℕ = x.old.row ∷ [] in
    let border = (h.0.each begun.top (in_rest begun.top new (begun.top ∷ []) (in_first begun.top []))).2 in
    let free : (r : ℕ) → IsIn r goes → claim_of m.0.claims r ≡ none =
    λ r i. subst (λ (y : ℕ). claim_of m.0.claims y ≡ none) (is_one r x.old.row i) d.unclaimed in
    let not_in : ¬ IsIn begun.top comes = λ i. apart (is_one begun.top new i) in
    let not_out : ¬ IsIn begun.top goes = λ i. some-ne-none (Holds border.0) (sym border.2 ∙ free begun.top i) in
    let then = unlinked_lending rows kept.rows m.0.claims (lent_of m.0.upper.ranges.own) comes goes begun.top not_in
    (either_first rows kept.rows m.0 new begun.top h).0 free in
    let came = given_fewer comes m.0.claims (in_nothing new [] refl, tt)
    (λ r i. subst (λ (y : ℕ). (its : List ℕ) × (claim_of m.0.claims y ≡ some (Holds its))) (is_one r new i)
    (let held = (h.0.each new (in_first new (begun.top ∷ []))).2 in (held.0, held.2))) in
    let went = taken_out_more goes (given comes m.0.claims) in
    let lent = claimed_one_less begun.top Lends (Holds border.0) (taken_out goes (given comes m.0.claims)) refl refl
    (taken_else goes (given comes m.0.claims) begun.top not_out ∙ (given_else comes m.0.claims begun.top not_in ∙ border.2)) in
    let before = h.1.now in let ever = h.1.ever in
    let now = subst (λ (y : MyTree × KeptRows). AreUnlinked rows y.1.rows y.0.0 goes) (λ i. (sym d.now i, sym too i)) (
      subst (λ (rest : List ℕ). HasTakenOut rows kept.rows (claimed begun.top Lends (taken_out goes (given comes m.0.claims))) (begun.top ∷ rest) goes)
          (ap lent_of own) then,
      record { now = omega arith; ever = omega arith },
    ) in
    subst (λ (y : ℕ). AreUnlinked rows kept'.rows m'.0 (y ∷ [])) same now
