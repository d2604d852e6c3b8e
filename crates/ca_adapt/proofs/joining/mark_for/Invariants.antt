use Rattle.ca_node.specs.TreeView.{none_begun, no_note}
use Rattle.std.specs.Prelude.{[]}
use Rattle.ca_node.specs.Told.{link_word}
use Rattle.ca_adapt.specs.Joins.{copy_on}
use Rattle.ca_adapt.proofs.joining.mark_for.Given as goal

abbrev pub ghosts-put_marked : goal.ghosts-put_marked
ghosts-put_marked a = record {
  copy = copy_on (link_word a.cursor.link) a.pass.now.seat.me a.row;
  begun = none_begun;
  border = [];
  left = no_note;
}
