-- What comes between two attempts of a call, or before the first one.
use Rattle.std.specs.Prelude.{◌≡◌, ◌⊎◌, ℕ, Bool, List, Option}
use Rattle.ca_node.specs.declared.cursor.Cursor.{Cursor}
use Rattle.ca_node.specs.Tallied.{IsTallied}
use Rattle.ca_node.specs.Told.{MyTree, IsKnown}
use Rattle.ca_node.specs.TreeView.{TreeView}
use Rattle.ca_base.specs.Progress.{IsFurther}
use Rattle.ca_base.specs.Readiness.{IsReady}
use Rattle.ca_replace.specs.Attempting.{BeginsAt, IsAsking, IsIdle, IsQuiet, at_pin}
use Rattle.ca_replace.specs.Bounded.{IsPaced}
use Rattle.ca_replace.specs.Causes.{HasPinned}
use Rattle.ca_rows.specs.declared.space.Pass.{Pass}
use Rattle.ca_rows.specs.declared.space.Space.{Space}
use Rattle.ca_rows.specs.Calls.{IsSame}

module _ {R : Type 0} where
  -- The pass is pinned, holds no row, has no range and no attempt to join, and learnt of others' edits alone since it pinned. An attempt of a call about this
  -- key may begin so.
  pub record MayBegin (space : Space R TreeView) (key : List ℕ) (again : Option Cursor) (marked : Bool) (pass : Pass R TreeView) : Type 0 where
    pub ready : IsReady space pass
    pub known : IsKnown space.table.shared.key pass.seat.me.0.upper
    pub asking : IsAsking pass.seat.me.0.upper
    pub idle : IsIdle marked pass
    pub begins : BeginsAt space.table.shared.key key pass.seat.me.0.upper again
    pub tallied : IsTallied pass.tally pass.seat.me.0.upper

  -- It is the same pass, which met nothing, loaded no link, keeps the same rows and has seen as much; where it isn't pinned as it was, it pinned.
  pub record GoesOn (pass new : Pass R TreeView) : Type 0 where
    pub same : IsSame pass.seat new.seat
    pub number : new.number ≡ pass.number
    pub kept : new.kept ≡ pass.kept
    pub sizes : new.seat.me.0.sizes ≡ pass.seat.me.0.sizes
    pub pin_number : new.seat.me.0.pin.number ≡ pass.seat.me.0.pin.number
    pub quiet : IsQuiet pass.seat.me new.seat.me
    pub seen : new.seat.me.0.upper.seen ≡ pass.seat.me.0.upper.seen
    pub loads : new.seat.me.0.upper.loads ≡ pass.seat.me.0.upper.loads
    pub further : IsFurther pass.seat.me.0.upper new.seat.me.0.upper
    pub since : IsFurther (at_pin pass.seat.me.0.upper) (at_pin new.seat.me.0.upper)
    pub pinned : (m : MyTree) → HasPinned m pass.seat.me → HasPinned m new.seat.me
    -- It pinned once, or not at all.
    pub paced : (new.seat.me.0.pin ≡ pass.seat.me.0.pin) ⊎ IsPaced pass.seat.me new.seat.me
