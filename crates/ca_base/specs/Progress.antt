-- What a pass knows more of the tree, from one moment of a call to a later one.
use Rattle.std.specs.Prelude.{◌≡◌, ℕ, [], ◌∷◌, ◌++◌, length}
use Rattle.ca_model.specs.Event.{Event, effect}
use Rattle.ca_model.specs.Known.{Counts}
use Rattle.ca_model.specs.Lawful.{IsPlaceFrom}
use Rattle.ca_node.specs.Tree.{StartsWith}
use Rattle.ca_node.specs.TreeView.{TreeView}

-- It has seen more of the history, at most; no call was entered in its log or was refused.
pub record IsFurther (u v : TreeView) : Type 0 where
  pub number : v.number ≡ u.number
  pub seen : StartsWith v.seen u.seen
  pub log : v.log ≡ u.log
  pub counts : v.counts ≡ u.counts

-- This call was entered in its log, at a place that isn't before what it had seen.
pub record HasDone (event : Event) (u v : TreeView) : Type 0 where
  pub number : v.number ≡ u.number
  pub seen : StartsWith v.seen u.seen
  pub at : ℕ
  pub from : IsPlaceFrom (length u.seen) at (effect event)
  pub log : v.log ≡ u.log ++ (event, at) ∷ []
  pub counts : v.counts ≡ u.counts

-- The call was refused, and counted so.
pub record IsRefused (rise : Counts → Counts) (u v : TreeView) : Type 0 where
  pub number : v.number ≡ u.number
  pub seen : StartsWith v.seen u.seen
  pub log : v.log ≡ u.log
  pub counts : v.counts ≡ rise u.counts
