use Rattle.ca_base.specs.Putting.{words_of}
use Rattle.ca_node.specs.TreeView.{no_border, no_note}
use Rattle.ca_rows.specs.Claims.{claim_of}
use Rattle.ca_range.specs.Marked.{copy_of}
use Rattle.ca_range.proofs.OwnEnds.{begun_of}
use Rattle.ca_range.proofs.opening.put_first.Given as goal

abbrev pub ghosts-mark_first : goal.ghosts-mark_first
ghosts-mark_first a = record {
  copy = copy_of a.pass.now.seat.me a.new;
  begun = begun_of a.pass.now.seat.me.0.upper.ranges.own;
  border = words_of (claim_of a.pass.now.seat.me.0.claims (begun_of a.pass.now.seat.me.0.upper.ranges.own).top);
  left = no_note;
}

abbrev pub ghosts-leave_range : goal.ghosts-leave_range
ghosts-leave_range a = record { begun = begun_of a.pass.now.seat.me.0.upper.ranges.own; border = no_border; last = no_note }
