-- What a base has of a state since the pin.
use Rattle.std.proofs.Common.{◌≡◌, ℕ, ◌≤◌, [], length, map, sym, refl, ap, ◌∙◌, subst, arith}
use Rattle.ca_model.specs.History.{History, after, state}
use Rattle.ca_model.specs.StoreMap.{StoreMap}
use Rattle.ca_node.specs.Place.{part}
use Rattle.ca_node.specs.Row.{pair}
use Rattle.ca_node.specs.States.{HasState, IsAlone, IsAtPin, IsUnanswered}
use Rattle.ca_node.specs.Told.{IsKnown}
use Rattle.ca_node.specs.Tree.{ArePast}
use Rattle.ca_node.specs.TreeView.{Note, TreeView, pinned}
use Rattle.ca_node.proofs.Logs.{last_state}
use Rattle.ca_rows.specs.declared.sizes.Sizes.{Sizes}

-- A pass that is alone finds what the last state has that it has seen.
pub has_last : (z : Sizes) (u : TreeView) (note : Note) → IsAlone z u → HasState z u note
    → map pair note.objects ≡ part note.place.span (after u.seen [])
has_last z u note alone h = h.has ∙ ap (λ (m : StoreMap). part note.place.span m)
    (ap (λ (n : ℕ). state u.seen n) (h.last alone) ∙ last_state u.seen)

-- What was seen at the pin is what had been seen before a look.
pub seen_before : (u w : TreeView) → IsAtPin u → w.since ≡ u.since
    → length u.seen ≤ length w.since
seen_before u w first same = let e = ap (λ (h : History). length h) (same ∙ first) in omega arith

-- As it is pinned a pass has answered nothing since.
pub none_since : (z : Sizes) (u : TreeView) → IsKnown z u → IsAtPin u → IsUnanswered u
none_since z u k first = subst (λ (h : History). ArePast (length h) u.log) (sym first) k.past

-- A pass that was just pinned has seen no more.
pub pinned_first : (u w : TreeView) → u ≡ pinned w → IsAtPin u
pinned_first u w same = subst IsAtPin (sym same) refl
