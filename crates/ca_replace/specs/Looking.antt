-- Looks for a key, with which each attempt begins, and what a pass may do behind one.
use Rattle.std.specs.Prelude.{◌≡◌, ◌+◌, ◌≤◌, ℕ, List, [], false, map, Result}
use Rattle.ca_model.specs.Places.{IsPlace}
use Rattle.ca_node.specs.declared.cursor.Cursor.{Cursor}
use Rattle.ca_node.specs.Row.{pair}
use Rattle.ca_node.specs.States.{IsAlone, IsUnanswered}
use Rattle.ca_node.specs.Tallied.{IsTallied}
use Rattle.ca_node.specs.Told.{IsSettled}
use Rattle.ca_node.specs.TreeView.{Quiet, TreeView}
use Rattle.ca_base.specs.Progress.{IsFurther}
use Rattle.ca_base.specs.Putting.{first_note}
use Rattle.ca_base.specs.Readiness.{IsReady, shown_last}
use Rattle.ca_replace.specs.Attempting.{IsIdle, IsLooking, IsQuiet}
use Rattle.ca_rows.specs.declared.space.Pass.{Pass}
use Rattle.ca_rows.specs.declared.space.Space.{Space}
use Rattle.ca_rows.specs.Calls.{IsSame}

module _ {R : Type 0} where
  -- It is the same pass, pinned as before, with the rows that it had. It was shown the base under the cursor, to which the key is led, and this is the
  -- key's place among the base's objects. No call was answered since the pin.
  pub record HasLooked (space : Space R TreeView) (key : List ℕ) (cursor : Cursor) (found : Result ℕ ℕ) (pass new : Pass R TreeView) : Type 0 where
    pub same : IsSame pass.seat new.seat
    pub number : new.number ≡ pass.number
    pub tally : IsTallied pass.tally pass.seat.me.0.upper → IsTallied new.tally new.seat.me.0.upper
    pub kept : new.kept ≡ pass.kept
    pub own_range : new.seat.me.0.upper.ranges.own ≡ pass.seat.me.0.upper.ranges.own
    pub still : (new.seat.me.0.sizes ≡ pass.seat.me.0.sizes) × (new.seat.me.0.pin ≡ pass.seat.me.0.pin)
        × (new.seat.me.0.claims ≡ pass.seat.me.0.claims)
    pub quiet : IsQuiet pass.seat.me new.seat.me
    pub looking : IsLooking space.table.shared.key new.seat.me.0.upper key cursor
    pub place : IsPlace (map pair (first_note new.seat.me.0.upper.notes).objects) key found
    pub further : IsFurther pass.seat.me.0.upper new.seat.me.0.upper
    pub since : new.seat.me.0.upper.since ≡ pass.seat.me.0.upper.since
    pub unanswered : IsUnanswered new.seat.me.0.upper

  -- So it looked, by one walk at most, and found no other range unfinished.
  pub record HasFound (space : Space R TreeView) (key : List ℕ) (cursor : Cursor) (found : Result ℕ ℕ) (pass new : Pass R TreeView) : Type 0 where
    pub looked : HasLooked space key cursor found pass new
    pub loads : new.seat.me.0.upper.loads ≤ pass.seat.me.0.upper.loads + (space.table.shared.key.levels + 1)
    pub unfinished : new.seat.me.0.upper.ranges.unfinished ≡ pass.seat.me.0.upper.ranges.unfinished

  -- The base under the cursor was shown last, to which the key is led. The pass may edit it once it has looked at its mark: it is pinned, holds no row, has no
  -- range and no attempt to join, met no mark, and answered no call since it pinned.
  pub record MayEdit (space : Space R TreeView) (key : List ℕ) (cursor : Cursor) (pass : Pass R TreeView) : Type 0 where
    pub ready : IsReady space pass
    pub looking : IsLooking space.table.shared.key pass.seat.me.0.upper key cursor
    pub unanswered : IsUnanswered pass.seat.me.0.upper
    pub idle : IsIdle false pass

  -- It has looked: neither a range nor a join has the base, and so the pass may put another one in its place.
  pub record MayExchange (space : Space R TreeView) (key : List ℕ) (cursor : Cursor) (pass : Pass R TreeView) : Type 0 where
    pub ready : IsReady space pass
    pub looking : IsLooking space.table.shared.key pass.seat.me.0.upper key cursor
    pub settled : IsSettled pass.seat.me.0.upper (shown_last pass).its
    pub quiet : pass.seat.me.0.upper.ranges.own ≡ Quiet
    pub unmet : IsAlone space.table.shared.key pass.seat.me.0.upper → pass.seat.me.0.upper.ranges.unfinished ≡ []
