-- What a call that read a range tells once its pass rests.
use Rattle.std.proofs.Common.{◌≡◌, ◌+◌, ◌*◌, ◌<◌, ◌≤◌, ℕ, Vec, sym, ap, ◌∙◌, subst, inl, inr, ⊎_elim, arith}
use Rattle.std.specs.Global.{Global}
use Rattle.ca_model.specs.Event.{Event}
use Rattle.ca_node.specs.Told.{MyTree}
use Rattle.ca_node.specs.TreeView.{TreeView, unpinned}
use Rattle.ca_replace.specs.Attempting.{HasDoneSuch}
use Rattle.ca_replace.specs.Bounded.{IsBounded, looked_in, pinned_in, spent_in}
use Rattle.ca_replace.specs.Causes.{EndsAtLag, IsUnspent, KeepsFew, WasUnspent}
use Rattle.ca_replace.specs.Leaving.{HasLeft}
use Rattle.ca_replace.proofs.Causing.{few_from}
use Rattle.ca_rows.specs.declared.kept.Kept.{Kept}
use Rattle.ca_rows.specs.declared.view.Met.{Met}

-- A call that is done is so once the pass unpinned.
pub done_left : (tells : Event → Type 0) (u v w : TreeView) → w ≡ unpinned v → HasDoneSuch tells u v
    → HasDoneSuch tells u w
done_left tells u v w same h = let d = h.2 in subst (λ (x : TreeView). HasDoneSuch tells u x)
    (sym same) (
      h.0,
      h.1,
      record {
        number = d.number;
        seen = d.seen;
        at = d.at;
        from = d.from;
        log = d.log;
        counts =
            d.counts;
      },
    )

-- What a call's outcome tells once the pass rests, by what it told before.
module _ (k m m' : MyTree) (kept' : Vec Kept Global) where
  pub few_left : HasLeft m m' kept' → k.0.pin.looks ≤ m.0.pin.looks → KeepsFew k m' kept'
  few_left l looks = few_from k m m' kept' looks l.few

  pub lags_left : HasLeft m m' kept' → EndsAtLag k m → m.0.pin.lags ≡ k.0.pin.lags → EndsAtLag k m'
  lags_left l h seen = (
    (let more = l.lags in omega arith),
    ap (λ (e : Met). e.lags) l.entered ∙
        h.1,
  )

  pub unspent_left : (budget : ℕ) → HasLeft m m' kept' → IsUnspent budget k m → WasUnspent budget k
      m'
  unspent_left budget l h = let left = l.left in
      let lost = ap (λ (u : TreeView). u.lost) l.upper in
      let helped = ap (λ (u : TreeView). u.turns.helped) l.upper in
      let passed = ap (λ (u : TreeView). u.turns.passed) l.upper in omega (arith, h)

  -- It looked at the others three times more, at most, and pinned no more often.
  pub bounded_left : (few : ℕ) → HasLeft m m' kept' → m'.0.pin.left.lost ≤ m'.0.lost
      → looked_in k m + 3 ≤ 3 * pinned_in k m → IsBounded few k m → IsBounded few k m'
  bounded_left few l lost looked h = let more = l.left in
      let links = ap (λ (u : TreeView). u.lost) l.upper in
      let helped = ap (λ (u : TreeView). u.turns.helped) l.upper in
      let passed = ap (λ (u : TreeView). u.turns.passed) l.upper in
      let pins = l.bounded.0 in let looks = l.bounded.1 in let one = h.pins in
      let entered = ap (λ (e : Met). e.empty) l.entered in record {
        pins = omega arith;
        most = ⊎_elim (λ (few : pinned_in k m ≤ 1 + spent_in k m). inl (omega arith))
            (λ (y : (0 < few) × (k.0.empty < m.0.pin.entered.empty)
            × (pinned_in k m ≤ 2 + spent_in k m)). let found = y.1 in
            let many = y.2 in inr (y.0, omega arith, omega arith)) h.most;
        looks = omega arith;
      }
