-- A pass that joins two bases, as it stops between two of its steps.
use Rattle.std.specs.Prelude.{◌≡◌, ℕ, ◌<◌, ◌≤◌, List, [], ◌∷◌}
use Rattle.ca_adapt.specs.Carrying.{Holds, IsSecurable, IsUniting}
use Rattle.ca_adapt.specs.declared.carrying.Copies.{Copies}
use Rattle.ca_adapt.specs.declared.carrying.Uniting.{Uniting}
use Rattle.ca_adapt.specs.declared.joining.Attempt.{Attempt}
use Rattle.ca_adapt.specs.declared.marking.Pair.{Pair}
use Rattle.ca_adapt.specs.Finishing.{IsHungBy}
use Rattle.ca_adapt.specs.Joins.{shown_on}
use Rattle.ca_adapt.specs.Pairs.{IsPair}
use Rattle.ca_adapt.specs.Trying.{IsHungUnder}
use Rattle.ca_base.specs.Finding.{IsAtCursor, IsBaseShown}
use Rattle.ca_base.specs.Readiness.{IsReady, shown_last}
use Rattle.ca_node.specs.declared.cursor.Cursor.{Cursor}
use Rattle.ca_node.specs.declared.link.Link.{Link}
use Rattle.ca_node.specs.JoinSteps.{attempt_of, IsAborting}
use Rattle.ca_node.specs.Told.{IsSettled}
use Rattle.ca_node.specs.TreeView.{Joining, Note, Quiet, Secured, TreeView}
use Rattle.ca_replace.specs.Attempting.{IsLooking}
use Rattle.ca_rows.specs.declared.space.Pass.{Pass}
use Rattle.ca_rows.specs.declared.space.Space.{Space}
use Rattle.ca_rows.specs.Passes.{IsOn, IsReading}

module _ {R : Type 0} (space : Space R TreeView) (pass : Pass R TreeView) where
  -- It came to the base under the cursor, which neither a range has nor a join.
  pub record HasLooked (cursor : Cursor) : Type 0 where
    pub ready : IsReady space pass
    pub shown : IsBaseShown space.table.shared.key pass.seat.me.0.upper cursor.base (shown_last pass)
    pub at : IsAtCursor space.table.shared.key (shown_last pass) cursor
    pub settled : IsSettled pass.seat.me.0.upper (shown_last pass).its
    pub hung : IsHungUnder space.table.shared.key pass.seat.me.0.upper cursor.link cursor.above
    pub quiet : pass.seat.me.0.upper.ranges.own ≡ Quiet

  -- It began the attempt, and may mark both bases for it.
  pub record HasBegun (pair : Pair) (above : Link) : Type 0 where
    pub ready : IsReady space pass
    pub pair_is : IsPair space.table.shared.key pass.seat.me.0.upper pair (shown_on pass pair.one.link) (shown_on pass pair.other.link)
    pub hung : IsHungBy space.table.shared.key pass.seat.me.0.upper pair.attempt.route above
    pub own : pass.seat.me.0.upper.ranges.own ≡ Joining (attempt_of pair.attempt.route pair.attempt.number)
    pub number : pair.attempt.number < 4611686018427387904

  -- It marked both, and may secure the attempt.
  pub record IsPrepared (pair : Pair) (above : Link) (copies : Copies) : Type 0 where
    pub reading : IsReading space pass
    pub one : Note
    pub other : Note
    pub securable : IsSecurable space.table.shared.key pass.seat.me pair copies.marked one other
    pub hung : IsHungBy space.table.shared.key pass.seat.me.0.upper pair.attempt.route above
    pub held : Holds space pass (copies.new ∷ [])

  -- It secured the attempt, and may unlink the route.
  pub record IsSecured (uniting : Uniting) : Type 0 where
    pub reading : IsReading space pass
    pub number : 0 < pass.seat.me.0.upper.number
    pub left : Note
    pub right : Note
    pub is_uniting : IsUniting space.table.shared.key pass.seat.me.0.upper uniting left right
    pub held : Holds space pass (uniting.new ∷ [])
    pub own : pass.seat.me.0.upper.ranges.own ≡ Secured (attempt_of uniting.attempt.route uniting.attempt.number)

  -- It found an attempt of another pass prepared, and may give it up.
  pub record HasFound (x : Attempt) : Type 0 where
    pub own : IsOn space pass
    pub inside : x.route ≤ space.table.shared.key.rows
    pub aborting : IsAborting pass.seat.me (attempt_of x.route x.number)
    pub small : x.number < 4611686018427387904

  -- It walked to the base under the cursor, to which this key is led, and stopped there. Neither a range has the base nor a join, as it knows.
  pub record IsBelow (key : List ℕ) (cursor : Cursor) : Type 0 where
    pub ready : IsReady space pass
    pub looking : IsLooking space.table.shared.key pass.seat.me.0.upper key cursor
    pub settled : IsSettled pass.seat.me.0.upper (shown_last pass).its
    pub quiet : pass.seat.me.0.upper.ranges.own ≡ Quiet
