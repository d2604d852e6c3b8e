-- Passes in a call that edits: what an operation on a base begins with, and what stays of the pass.
use Rattle.std.specs.Prelude.{◌≡◌, ◌<◌, [], true}
use Rattle.ca_node.specs.Tallied.{IsTallied}
use Rattle.ca_node.specs.TreeView.{Note, Ranging, TreeView}
use Rattle.ca_base.specs.Putting.{first_note}
use Rattle.ca_base.specs.Taking.{AreHeld}
use Rattle.ca_rows.specs.declared.space.Pass.{Pass}
use Rattle.ca_rows.specs.declared.space.Space.{Space}
use Rattle.ca_rows.specs.Calls.{IsNumbered, IsSame}
use Rattle.ca_rows.specs.Passes.{IsOn}

module _ {R : Type 0} where
  -- the base that the pass was shown last
  abbrev pub shown_last : Pass R TreeView → Note
  shown_last pass = first_note pass.seat.me.0.upper.notes

  -- The pass is one of this space, and has its number. It is pinned, and holds no row.
  pub record IsReady (space : Space R TreeView) (pass : Pass R TreeView) : Type 0 where
    pub own : IsOn space pass
    pub numbered : IsNumbered pass.number pass.seat.me.0.pin
    pub pinned : pass.seat.me.0.pin.pinned ≡ true
    pub number : 0 < pass.seat.me.0.upper.number
    pub none : AreHeld space.table.shared.key.rows pass.kept.rows pass.seat.me.0 []

  -- It is the same pass, pinned as before. It counted what it carried out, and holds no row. Its own range is as far as it was.
  pub record StaysReady (space : Space R TreeView) (pass new : Pass R TreeView) : Type 0 where
    pub same : IsSame pass.seat new.seat
    pub number : new.number ≡ pass.number
    pub tally : IsTallied pass.tally pass.seat.me.0.upper → IsTallied new.tally new.seat.me.0.upper
    pub pin : (new.seat.me.0.sizes ≡ pass.seat.me.0.sizes) × (new.seat.me.0.pin ≡ pass.seat.me.0.pin)
    pub own_range : new.seat.me.0.upper.ranges.own ≡ pass.seat.me.0.upper.ranges.own
    pub none : AreHeld space.table.shared.key.rows new.kept.rows new.seat.me.0 []

  -- The same, but that its own operation is so far.
  pub record StaysReadyBut (own : Ranging) (space : Space R TreeView) (pass new : Pass R TreeView) : Type 0 where
    pub same : IsSame pass.seat new.seat
    pub number : new.number ≡ pass.number
    pub tally : IsTallied pass.tally pass.seat.me.0.upper → IsTallied new.tally new.seat.me.0.upper
    pub pin : (new.seat.me.0.sizes ≡ pass.seat.me.0.sizes) × (new.seat.me.0.pin ≡ pass.seat.me.0.pin)
    pub own_range : new.seat.me.0.upper.ranges.own ≡ own
    pub none : AreHeld space.table.shared.key.rows new.kept.rows new.seat.me.0 []
