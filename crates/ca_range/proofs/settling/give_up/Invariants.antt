use Rattle.ca_node.specs.TreeView.{no_note}
use Rattle.ca_range.proofs.OwnEnds.{begun_of, border_of}
use Rattle.ca_range.proofs.settling.give_up.Given as goal

abbrev pub ghosts-abort_own : goal.ghosts-abort_own
ghosts-abort_own a = record {
  begun = begun_of a.pass.now.seat.me.0.upper.ranges.own;
  border = border_of a.pass.now.seat.me.0.upper.ranges.own;
  last = no_note;
}
