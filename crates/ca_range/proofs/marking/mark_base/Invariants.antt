use Rattle.ca_node.specs.TreeView.{none_begun}
use Rattle.std.specs.Prelude.{[]}
use Rattle.ca_range.specs.Marked.{copy_of, second_note}
use Rattle.ca_range.proofs.marking.mark_base.Given as goal

abbrev pub ghosts-put_copy : goal.ghosts-put_copy
ghosts-put_copy a = record {
  copy = copy_of a.pass.now.seat.me a.row;
  begun = none_begun;
  border = [];
  left = second_note a.pass.now.seat.me.0.upper.notes;
}
