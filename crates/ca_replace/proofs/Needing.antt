-- Of which bases calls need more, that read what is within edges.
use Rattle.std.proofs.Common.{◌≡◌, ◌<◌, ℕ, Bool, false, List, [], ◌∷◌, ⊎_elim, refl, subst, arith}
use denote.Ref.{Bor}
use denote.Param.Members.{Shared}
use Rattle.ca_model.specs.Edges.{Unbounded, bound_of}
use Rattle.ca_model.specs.Function.{MaySay}
use Rattle.ca_node.specs.TreeView.{Note}
use Rattle.ca_range.specs.Counted.{IsCountOf}
use Rattle.ca_range.specs.Looking.{IsNotEnough, objects_from}
use Rattle.ca_range.specs.declared.sought.Sought.{Sought}
use Rattle.ca_replace.specs.Within.{EndsTooSoon, NeedsAbove, NeedsBelow}

module _ {F : Type 0} (g : Shared F (Bor (List ℕ) × Unit {0}) Bool) (sought : Sought F) (note : Note) (n : IsNotEnough g sought note) where
  pub too_soon : EndsTooSoon (bound_of sought.lo) (bound_of sought.hi) note
  too_soon = record { holds = n.holds; key = n.key; ends = n.looked.0; short = n.looked.2 }

  -- Where the function never answers false, none were counted only where none are there.
  none_there : ((o : List ℕ) → MaySay g sought.counts.now o false → ⊥) → (counted : ℕ) → counted < 1 → (objects : List (List ℕ))
      → IsCountOf g sought.counts.now counted objects → objects ≡ []
  none_there never counted less [] is = refl
  none_there never counted less (o ∷ objects) is = ⊎_elim (λ (no : MaySay g sought.counts.now o false × IsCountOf g sought.counts.now counted objects).
      absurd (never o no.0)) (λ (yes : _). let e = yes.1 in absurd (omega arith)) is

  pub needs_above : sought.want ≡ 1 → bound_of sought.hi ≡ Unbounded → ((o : List ℕ) → MaySay g sought.counts.now o false → ⊥)
      → NeedsAbove (bound_of sought.lo) note
  needs_above one top never = let all = n.looked.3 (omega (arith, one)) in let more = all.1 in
      let fewer : more.0 < 1 = let less = all.0 in let is = more.1 in omega (arith, one, less, is) in (
        subst (λ hi. EndsTooSoon (bound_of sought.lo) hi note) top too_soon,
        none_there never more.0 fewer (objects_from (bound_of sought.lo) note) more.2,
      )

  pub needs_below : NeedsBelow (bound_of sought.hi) note
  needs_below = (bound_of sought.lo, too_soon)
