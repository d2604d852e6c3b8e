-- A pass whose range stopped behind its first mark, and one that found such a range.
use Rattle.std.specs.Prelude.{◌≡◌, ℕ, Bool, List}
use denote.Ref.{Bor}
use denote.Param.Members.{Shared}
use Rattle.ca_base.specs.Readiness.{IsReady}
use Rattle.ca_node.specs.TreeView.{Quiet, TreeView}
use Rattle.ca_range.specs.Ahead.{IsAtLast}
use Rattle.ca_base.specs.Putting.{first_note}
use Rattle.ca_range.specs.Filling.{IsInUse}
use Rattle.ca_range.specs.Gathering.{IsGathering}
use Rattle.ca_range.specs.Meeting.{AreMet}
use Rattle.ca_range.specs.Snapshots.{IsRemembered}
use Rattle.ca_range.specs.declared.sought.Run.{Run}
use Rattle.ca_range.specs.declared.sought.Sought.{Sought}
use Rattle.ca_rows.specs.Passes.{IsReading}
use Rattle.ca_rows.specs.declared.space.Pass.{Pass}
use Rattle.ca_rows.specs.declared.space.Space.{Space}
use Rattle.ca_join_tests.specs.declared.halted.Halted.{Halted}
use Rattle.ca_join_tests.specs.declared.halted.Met.{Met}

module _ {F : Type 0} (g : Shared F (Bor (List ℕ) × Unit {0}) Bool) (sought : Sought F) {R : Type 0} (space : Space R TreeView) (pass : Pass R TreeView) where
  -- It marked the base that was shown last, and its range goes on from there.
  pub record IsHalted (x : Halted) : Type 0 where
    pub ready : IsReady space pass
    pub number : pass.number ≡ pass.seat.me.0.upper.number
    pub met : AreMet x.account.met.numbers pass.seat.me.0.upper.ranges.unfinished
    pub gathering : IsGathering g sought space.table.shared.key pass.seat.me.0.upper x.gathered

module _ {R : Type 0} (space : Space R TreeView) (pass : Pass R TreeView) where
  -- It came to a base that a range of another pass has.
  pub record HasFoundRange (x : Met) : Type 0 where
    pub ready : IsReady space pass
    pub number : pass.number ≡ pass.seat.me.0.upper.number
    pub quiet : pass.seat.me.0.upper.ranges.own ≡ Quiet
    pub met : AreMet x.account.met.numbers pass.seat.me.0.upper.ranges.unfinished
    pub at : IsAtLast space.table.shared.key pass.seat.me.0.upper x.from.cursor
    pub used : IsInUse pass.seat.me.0.upper (first_note pass.seat.me.0.upper.notes) x.from.range

  -- The bases of a run can be read.
  pub record MayRead (run : Run) : Type 0 where
    pub reading : IsReading space pass
    pub remembered : IsRemembered space.table.shared.key pass.seat.me.0.upper run
