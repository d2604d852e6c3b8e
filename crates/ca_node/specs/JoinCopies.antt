-- Bases that are marked for a join: a copy with the mark of an attempt takes the place of a base under the route, and no object comes or goes.
use Rattle.std.specs.Prelude.{◌≡◌, true, ℕ, ◌<◌, ◌≤◌}
use mathlib.Core.Option.{some}
use Rattle.ca_rows.specs.Claims.{claim_of}
use Rattle.ca_rows.specs.declared.sizes.Sizes.{Sizes}
use Rattle.ca_rows.specs.declared.view.Claim.TheVariants.{Holds}
use Rattle.ca_node.specs.Copies.{Copy}
use Rattle.ca_node.specs.JoinSteps.{attempt_of}
use Rattle.ca_node.specs.Links.{IsIn}
use Rattle.ca_node.specs.Place.{IsLinkOf}
use Rattle.ca_node.specs.Row.{IsBaseRow, count, level, items, IsMarkedFor, IsHeaded}
use Rattle.ca_node.specs.Told.{MyTree, IsLastThere, IsSettled}

-- The seat may put the new row in the place of the old base: it is pinned, its last load of that link showed that base, which neither a range has nor a join, it
-- holds the new one, and that is a copy with the mark of an attempt that was begun, of the route on whose link the base hangs.
pub record IsJoinCopy (z : Sizes) (m : MyTree) (new : ℕ) (x : Copy) : Type 0 where
  pub is_pinned : m.0.pin.pinned ≡ true
  pub is_pass : 0 < m.0.upper.number
  pub shown : IsLastThere x.old m.0.upper.notes
  pub old_base : IsBaseRow x.old.its
  pub settled : IsSettled m.0.upper x.old.its
  pub held : claim_of m.0.claims new ≡ some (Holds x.its)
  pub is_base : IsBaseRow x.its
  pub level_is : level x.its ≡ x.old.place.level
  pub few : count x.its ≤ z.leaf
  pub same_items : items x.its ≡ items x.old.its
  pub headed : IsHeaded x.its x.old.objects
  pub marked : IsMarkedFor x.its x.pass x.number
  pub is_link : IsLinkOf x.pass x.old.place.link
  pub begun : IsIn (attempt_of x.pass x.number) m.0.upper.ranges.joins.begun
