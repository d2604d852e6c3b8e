use Rattle.ca_base.specs.Putting.{first_note}
use Rattle.ca_node.specs.Row.{mark_bound}
use Rattle.ca_range.specs.Reaching.{border_for}
use Rattle.ca_range.proofs.deciding.decide.Given as goal

abbrev pub ghosts-finish : goal.ghosts-finish
ghosts-finish a = record {
  pass = a.range.owner;
  number = a.range.number;
  last = first_note a.pass.now.seat.me.0.upper.notes;
  border = border_for (mark_bound (first_note a.pass.now.seat.me.0.upper.notes).its)
      (first_note a.pass.now.seat.me.0.upper.notes).place.span.high a.pass.now.seat.me.0.upper.ranges.borders;
}
