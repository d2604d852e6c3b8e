-- A range of a pass's own begins: its first base is marked, or it is left.
use Rattle.std.proofs.Common.{◌≡◌, ◌≢◌, ℕ, ◌<◌, ◌≤◌, true, List, [], ◌∷◌, length, sym, ap, ◌∙◌, subst, arith}
use Rattle.ca_base.specs.Putting.{words_of}
use Rattle.ca_base.specs.Taking.{AreHeld, AreUnlinked, HasHeld, lent_of}
use Rattle.ca_node.specs.Copies.{IsCopied, IsFirstCopy, marking_now}
use Rattle.ca_node.specs.OwnRanges.{IsLeaving, given_up}
use Rattle.ca_node.specs.Told.{MyTree, one_more_lost, with_upper}
use Rattle.ca_node.specs.TreeView.{Begun, Ranging, Unmarked}
use Rattle.ca_rows.specs.Claims.{claim_of}
use Rattle.ca_rows.specs.Told.{relinked}
use Rattle.ca_rows.specs.declared.kept.KeptRows.{KeptRows}
use Rattle.ca_rows.specs.declared.sizes.Sizes.{Sizes}
use Rattle.ca_node.specs.declared.cursor.Cursor.{Cursor}
use Rattle.ca_range.specs.Marked.{copy_of}
use Rattle.ca_range.specs.Opening.{IsFirstReady}
use Rattle.ca_range.specs.declared.opening.Rows.{Rows}
use Rattle.ca_range.proofs.FirstMarked.{first_rows}
use Rattle.ca_range.proofs.OwnEnds.{begun_of}

-- The range was begun, and nothing is marked for it.
pub is_begun : (own : Ranging) (begun : Begun) → own ≡ Unmarked begun → own ≡ Unmarked (begun_of own)
is_begun own begun e = e ∙ (λ i. Unmarked (begun_of (sym e i)))

module _ (z : Sizes) (m m' : MyTree) (rows : Rows) (first : Cursor) (ready : IsFirstReady z m rows first) where
  -- Its first base's copy may be put in place.
  pub may_mark : IsFirstCopy m (copy_of m rows.copy) (begun_of m.0.upper.ranges.own) (words_of (claim_of m.0.claims (begun_of m.0.upper.ranges.own).top))
  may_mark = subst (λ (b : Begun). IsFirstCopy m (copy_of m rows.copy) b (words_of (claim_of m.0.claims b.top)))
      (sym (ap begun_of ready.own)) ready.first_copy

  top : (begun_of m.0.upper.ranges.own).top ≡ rows.own.border
  top = ap (λ (r : Ranging). (begun_of r).top) ready.own ∙ ready.top_is

  -- Once it is there the old base is unlinked.
  pub first_unlinked : (kept kept' : KeptRows) → rows.copy ≢ rows.own.border
      → IsCopied ((begun_of m.0.upper.ranges.own).top ∷ [])
      (marking_now m.0.upper.ranges (begun_of m.0.upper.ranges.own) (words_of (claim_of m.0.claims (begun_of m.0.upper.ranges.own).top))) rows.copy (copy_of m rows.copy) m m'
      → kept' ≡ kept → AreHeld z.rows kept.rows m.0 (rows.copy ∷ rows.own.border ∷ []) → AreUnlinked z.rows kept'.rows m'.0 (first.base ∷ [])
  first_unlinked kept kept' apart d too held = first_rows z.rows kept kept' m m' rows.copy (copy_of m rows.copy) (begun_of m.0.upper.ranges.own)
      (words_of (claim_of m.0.claims (begun_of m.0.upper.ranges.own).top)) first.base ready.at.base (is_begun m.0.upper.ranges.own ready.begun ready.own)
      (λ e. apart (e ∙ top)) d too (subst (λ (row : ℕ). AreHeld z.rows kept.rows m.0 (rows.copy ∷ row ∷ [])) (sym top) held)

  -- Where the exchange was lost the range may be left.
  pub may_leave : m.0.pin.pinned ≡ true → 0 < m.0.upper.number → m' ≡ with_upper m (one_more_lost m.0.upper)
      → IsLeaving m' (begun_of m'.0.upper.ranges.own)
  may_leave pinned number e = subst (λ (x : MyTree). IsLeaving x (begun_of x.0.upper.ranges.own)) (sym e) record {
    is_pinned = pinned;
    is_pass = number;
    own = is_begun m.0.upper.ranges.own ready.begun ready.own;
  }

  pub number_is : m' ≡ with_upper m (one_more_lost m.0.upper) → (begun_of m'.0.upper.ranges.own).number ≡ rows.own.number
  number_is e = ap (λ (x : MyTree). (begun_of x.0.upper.ranges.own).number) e ∙ (ap (λ (r : Ranging). (begun_of r).number) ready.own ∙ ready.number_is)

-- Where a range is left for which nothing was marked, the same rows are held.
pub left_held : (rows number : ℕ) (begun : Begun) (kept kept' : KeptRows) (m m' : MyTree) (held : List ℕ) → m.0.upper.ranges.own ≡ Unmarked begun
    → m' ≡ relinked m m.0.claims (given_up number m.0.upper) → kept' ≡ kept → length held ≤ 8 → AreHeld rows kept.rows m.0 held
    → AreHeld rows kept'.rows m'.0 held
left_held rows number begun kept kept' m m' held own e same few h = let now = h.1.now in let ever = h.1.ever in
    subst (λ (x : MyTree × KeptRows). AreHeld rows x.1.rows x.0.0 held) (λ i. (sym e i, sym same i)) (
      subst (λ (lent : List ℕ). HasHeld rows kept.rows m.0.claims lent held) (ap lent_of own) h.0,
      record { now = now; ever = omega arith },
    )
