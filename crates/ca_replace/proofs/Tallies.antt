-- What passes count, as a call that edits nothing is entered in the log, and as a base is looked
-- for.
use Rattle.std.proofs.Common.{◌≡◌, ap}
use Rattle.ca_model.specs.Event.{Event}
use Rattle.ca_node.specs.declared.cursor.Cursor.{Cursor}
use Rattle.ca_node.specs.declared.cursor.Spot.{Spot}
use Rattle.ca_node.specs.Tallied.{IsTallied}
use Rattle.ca_node.specs.Told.{MyTree, IsEntered}
use Rattle.ca_node.specs.Walking.{IsWalked}
use Rattle.ca_node.proofs.Tallies.{tallied_still}
use Rattle.ca_rows.specs.declared.sizes.Sizes.{Sizes}
use Rattle.ca_rows.specs.declared.tally.Tally.{Tally}

-- An entry in the log is counted nowhere.
pub tallied_read : (t t' : Tally) (m m' : MyTree) (event : Event) → t' ≡ t
    → IsEntered event m m' → IsTallied t m.0.upper
    → IsTallied t' m'.0.upper
tallied_read t t' m m' event same e =
    tallied_still t t' m.0.upper m'.0.upper same (ap (λ (y : MyTree). y.0.upper.splits) e.now)
    (ap (λ (y : MyTree). y.0.upper.joins) e.now)

-- Nor is a walk.
pub tallied_walk : (z : Sizes) (spot : Spot) (m m' : MyTree) (cursor : Cursor) (t t' : Tally)
    → IsWalked z spot m cursor m' → t' ≡ t → IsTallied t m.0.upper
    → IsTallied t' m'.0.upper
tallied_walk z spot m m' cursor t t' w same =
    tallied_still t t' m.0.upper m'.0.upper same (ap (λ (y : MyTree). y.0.upper.splits) w.now)
    (ap (λ (y : MyTree). y.0.upper.joins) w.now)
