use Rattle.std.proofs.Common.{◌≡◌, ◌+◌, ◌-◌, ℕ, vec_len}
use Rattle.ca_base.specs.Counting.{HasMet}
use Rattle.ca_base.specs.Readiness.{IsReady}
use Rattle.ca_node.specs.States.{IsAlone}
use Rattle.ca_node.specs.Told.{MyTree}
use Rattle.ca_range.specs.Farther.{reach, room}
use Rattle.ca_range.specs.Gathering.{IsGathering}
use Rattle.ca_range.specs.Loading.{GoesBy}
use Rattle.ca_range.specs.Lonely.{GathersAlone}
use Rattle.ca_range.specs.Meeting.{AreMet}
use Rattle.ca_range.specs.Snapping.{GoesOn}
use Rattle.ca_range.proofs.gathering.gather.Given as goal

abbrev pub invariant-loop-pass : goal.invariant-loop-pass
invariant-loop-pass g l = record {
  ready : IsReady l.space l.pass;
  goes : GoesOn l.space l.fn.account.spent l.account.spent l.fn.pass l.pass;
  number : l.pass.number ≡ l.pass.seat.me.0.upper.number;
  met : AreMet l.account.met.numbers l.pass.seat.me.0.upper.ranges.unfinished;
  gathering : IsGathering g.F.Fn l.search.sought.now l.space.table.shared.key l.pass.seat.me.0.upper l.last;
  pool : HasMet 0 0 l.fn.pass.seat.me l.pass.seat.me;
  loads : GoesBy l.space.table.shared.key l.fn.pass.seat.me.0.upper l.pass.seat.me.0.upper;
  alone : (kept : ℕ) (m : MyTree) → IsAlone l.space.table.shared.key l.fn.pass.seat.me.0.upper
      → GathersAlone kept (vec_len l.fn.pass.kept.rows) m l.fn.pass.seat.me
      → GathersAlone kept (vec_len l.pass.kept.rows) m l.pass.seat.me;
}

abbrev pub decreases-loop-pass : goal.decreases-loop-pass
decreases-loop-pass g l = room 1000 + 1 - reach l.pass.seat.me.0.upper
