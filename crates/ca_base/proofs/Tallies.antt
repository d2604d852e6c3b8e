-- What passes count, as a base is exchanged.
use Rattle.std.proofs.Common.{◌≡◌, ℕ, Bool, true, false, ap, ◌∙◌}
use Rattle.ca_rows.specs.declared.tally.Tally.{Tally}
use Rattle.ca_rows.specs.Tallied.{HasTallied}
use Rattle.ca_node.specs.Tallied.{IsTallied}
use Rattle.ca_node.specs.Told.{MyTree, HasDivided, Update, HasUpdated}
use Rattle.ca_node.specs.TreeView.{TreeView, Division}
use Rattle.ca_node.proofs.Tallies.{tallied_still, tallied_split}

-- The same is known, and the same is counted.
pub tallied_as : (t t' : Tally) (u v : TreeView) → t' ≡ t → v ≡ u → IsTallied t u → IsTallied t' v
tallied_as t t' u v same e =
    tallied_still t t' u v same (ap (λ (y : TreeView). y.splits) e) (ap
    (λ (y : TreeView). y.joins) e)

-- An update is no split.
pub tallied_update : (won : Bool) (new : ℕ) (x : Update) (m m' : MyTree) (v : TreeView)
    (t t' : Tally) → HasUpdated won new x m m' → v ≡ m'.0.upper
    → t' ≡ t → IsTallied t m.0.upper → IsTallied t' v
tallied_update true new x m m' v t t' u e same = let now = e
    ∙ ap (λ (y : MyTree). y.0.upper) u.now in
    tallied_still t t' m.0.upper v same (ap (λ (y : TreeView). y.splits) now) (ap
    (λ (y : TreeView). y.joins) now)
tallied_update false new x m m' v t t' u e same = let now = e ∙ ap (λ (y : MyTree). y.0.upper) u in
    tallied_still t t' m.0.upper v same (ap (λ (y : TreeView). y.splits) now) (ap
    (λ (y : TreeView). y.joins) now)

-- A split is counted.
pub tallied_division : (won : Bool) (x : Division) (m m' : MyTree) (v : TreeView) (t t' t'' : Tally)
    → HasDivided won x m m' → HasTallied won t t'
    → v ≡ m'.0.upper → t'' ≡ t' → IsTallied t m.0.upper → IsTallied t'' v
tallied_division won x m m' v t t' t'' d c e same h =
    tallied_as t' t'' m'.0.upper v same e (tallied_split won x m m' t t' d c h)
