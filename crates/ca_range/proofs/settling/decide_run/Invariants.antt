use Rattle.ca_base.specs.Putting.{first_note}
use Rattle.ca_range.proofs.OwnEnds.{begun_of, border_of}
use Rattle.ca_range.proofs.settling.decide_run.Given as goal

abbrev pub ghosts-decide_own : goal.ghosts-decide_own
ghosts-decide_own g a = record {
  begun = begun_of a.pass.now.seat.me.0.upper.ranges.own;
  border = border_of a.pass.now.seat.me.0.upper.ranges.own;
  last = first_note a.pass.now.seat.me.0.upper.notes;
}
