-- What passes count is what they know of it.
use Rattle.std.proofs.Common.{◌≡◌, ℕ, Bool, true, false, min, sym, ap, ◌∙◌, ⊎_elim, arith}
use Rattle.ca_rows.specs.declared.tally.Tally.{Tally}
use Rattle.ca_rows.specs.Tallied.{HasTallied, HasTalliedJoin}
use Rattle.ca_node.specs.Tallied.{IsTallied}
use Rattle.ca_node.specs.Told.{MyTree, HasDivided, IsLed, IsLedToBase, IsLedToRoute}
use Rattle.ca_node.specs.TreeView.{TreeView, Division}
use Rattle.ca_node.specs.Unlinks.{Unlinking, HasUnlinked}

abbrev most : ℕ
most = 18446744073709551615

-- Nothing was carried out, and nothing is counted.
pub tallied_still : (t t' : Tally) (u v : TreeView) → t' ≡ t → v.splits ≡ u.splits
    → v.joins ≡ u.joins → IsTallied t u → IsTallied t' v
tallied_still t t' u v same s j h = (
  ap (λ (x : Tally). x.splits) same ∙ (h.0 ∙ ap (min most) (sym s)),
  ap (λ (x : Tally). x.joins) same ∙ (h.1 ∙ ap (min most) (sym j)),
)

-- An exchange against a route: one split more is carried out and counted, or none.
pub tallied_split : (won : Bool) (x : Division) (m m' : MyTree) (t t' : Tally)
    → HasDivided won x m m' → HasTallied won t t' → IsTallied t m.0.upper
    → IsTallied t' m'.0.upper
tallied_split true x m m' t t' d c h = let s = h.0 in
    let more = ap (λ (y : MyTree). y.0.upper.splits) d.now in
    let one = ap (λ (y : Tally). y.splits) c in (
      omega arith,
      ap (λ (y : Tally). y.joins) c
          ∙ (h.1 ∙ ap (λ (y : MyTree). min most y.0.upper.joins) (sym d.now)),
    )
tallied_split false x m m' t t' d c h =
    tallied_still t t' m.0.upper m'.0.upper c (ap (λ (y : MyTree). y.0.upper.splits) d) (ap
    (λ (y : MyTree). y.0.upper.joins) d) h

-- An exchange by which a route is unlinked: one join more is carried out and counted, or none.
pub tallied_join : (won : Bool) (new : ℕ) (x : Unlinking) (m m' : MyTree) (t t' : Tally) → HasUnlinked won new x m m' → HasTalliedJoin won t t'
    → IsTallied t m.0.upper → IsTallied t' m'.0.upper
tallied_join true new x m m' t t' d c h = let j = h.1 in let more = ap (λ (y : MyTree). y.0.upper.joins) d.now in
    let one = ap (λ (y : Tally). y.joins) c in (
      ap (λ (y : Tally). y.splits) c ∙ (h.0 ∙ ap (λ (y : MyTree). min most y.0.upper.splits) (sym d.now)),
      omega arith,
    )
tallied_join false new x m m' t t' d c h =
    tallied_still t t' m.0.upper m'.0.upper c (ap (λ (y : MyTree). y.0.upper.splits) d) (ap (λ (y : MyTree). y.0.upper.joins) d) h

-- The load of a link is neither a split nor a join, and tells nothing of the own range.
pub led_counts : (walks : Bool) (link : ℕ) (m m' : MyTree) (row : ℕ) → IsLed walks link m row m'
    → (m'.0.upper.splits ≡ m.0.upper.splits) × (m'.0.upper.joins ≡ m.0.upper.joins) × (m'.0.upper.ranges.own ≡ m.0.upper.ranges.own)
led_counts walks link m m' row led = ⊎_elim
    (λ (b : IsLedToBase walks link m row m').
    (ap (λ (y : MyTree). y.0.upper.splits) b.now, ap (λ (y : MyTree). y.0.upper.joins) b.now, ap (λ (y : MyTree). y.0.upper.ranges.own) b.now))
    (λ (w : IsLedToRoute link m row m').
    (ap (λ (y : MyTree). y.0.upper.splits) w.now, ap (λ (y : MyTree). y.0.upper.joins) w.now, ap (λ (y : MyTree). y.0.upper.ranges.own) w.now))
    led
