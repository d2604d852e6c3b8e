-- Exchanges of a join word change no claim of a seat.
use Rattle.std.proofs.Common.{◌≡◌, ℕ, ◌≤◌, List, length, sym, subst, arith}
use Rattle.ca_base.specs.Taking.{AreHeld, HasHeld, lent_of}
use Rattle.ca_node.specs.Told.{MyTree, with_upper}
use Rattle.ca_node.specs.TreeView.{TreeView}
use Rattle.ca_rows.specs.Told.{relinked}
use Rattle.ca_rows.specs.declared.kept.KeptRows.{KeptRows}

-- What it holds it holds still, where it lends nothing before and behind.
module _ (rows : ℕ) (kept kept' : KeptRows) (m m' : MyTree) (held : List ℕ) (v : TreeView)
    (too : kept' ≡ kept)
    (lent : lent_of v.ranges.own ≡ lent_of m.0.upper.ranges.own) (few : length held ≤ 8)
    (h : AreHeld rows kept.rows m.0 held) where
  pub relinked_held : m' ≡ relinked m m.0.claims v → AreHeld rows kept'.rows m'.0 held
  relinked_held e = let now = h.1.now in let ever = h.1.ever in
      subst (λ (x : MyTree × KeptRows). AreHeld rows x.1.rows x.0.0 held)
      (λ i. (sym e i, sym too i)) (
        subst (λ (xs : List ℕ). HasHeld rows kept.rows m.0.claims xs held) (sym lent) h.0,
        record { now = now; ever = omega arith },
      )

  pub raised_held : m' ≡ with_upper m v → AreHeld rows kept'.rows m'.0 held
  raised_held e = subst (λ (x : MyTree × KeptRows). AreHeld rows x.1.rows x.0.0 held)
      (λ i. (sym e i, sym too i)) (
        subst (λ (xs : List ℕ). HasHeld rows kept.rows m.0.claims xs held) (sym lent) h.0,
        record { now = h.1.now; ever = h.1.ever },
      )
