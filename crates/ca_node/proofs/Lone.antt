-- A pass that is the only one: what holds of it alone holds behind its steps.
use Rattle.std.proofs.Common.{◌≡◌, ◌≢◌, ℕ, ◌<◌, ◌≤◌, List, set, ⊎_elim, subst, arith}
use mathlib.Core.Option.{some}
use lib.ListN.{get_elem?}
use Rattle.atomic_table.proofs.Lists.{at_set}
use Rattle.ca_model.specs.History.{History}
use Rattle.ca_rows.specs.declared.sizes.Sizes.{Sizes}
use Rattle.ca_node.specs.Lone.{IsLone, AreLone}
use Rattle.ca_node.specs.Shape.{Role}
use Rattle.ca_node.specs.Tree.{Knows}
use Rattle.ca_node.specs.TreeView.{TreeView}

-- Where no more than one pass was made no other seat is a pass's.
pub no_other : (z : Sizes) (made : ℕ) (words : List ℕ) (role : ℕ → Role) (uppers : List TreeView) (history : History)
    → ((j : ℕ) (v : TreeView) → get_elem? uppers j ≡ some v → Knows z made words role uppers history j v)
    → (id : ℕ) (u : TreeView) → get_elem? uppers id ≡ some u → 0 < u.number
    → (j : ℕ) (v : TreeView) → j ≢ id → get_elem? uppers j ≡ some v → made ≤ 1 → ¬ (0 < v.number)
no_other z made words role uppers history each id u at is_pass j v ne here few pass = let mine = each id u at in
    let a = mine.made_before in let b = (each j v here).made_before in ne (mine.alone is_pass j v here (omega arith))

-- Where no more than one pass was made, the one that took a step is the only one: if this holds of it then, so it does of each pass.
pub lone_by_one : (z : Sizes) (made : ℕ) (words others : List ℕ) (role role' : ℕ → Role) (uppers : List TreeView) (history : History)
    → ((j : ℕ) (v : TreeView) → get_elem? uppers j ≡ some v → Knows z made words role uppers history j v)
    → (id : ℕ) (u u' : TreeView) → get_elem? uppers id ≡ some u → 0 < u.number
    → (made ≤ 1 → IsLone others role' u'.number u'.ranges.own u'.ways u'.ranges.joins.begun)
    → AreLone made others role' (set uppers id u')
lone_by_one z made words others role role' uppers history each id u u' at is_pass known j v here few pass = ⊎_elim
    (λ (t : (j ≡ id) × (u' ≡ v)). subst (λ (w : TreeView). IsLone others role' w.number w.ranges.own w.ways w.ranges.joins.begun) t.1 (known few))
    (λ (t : (j ≢ id) × (get_elem? uppers j ≡ some v)).
    absurd (no_other z made words role uppers history each id u at is_pass j v t.0 t.1 few pass))
    (at_set uppers id j u' v here)
