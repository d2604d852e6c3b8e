use Rattle.ca_model.specs.Edges.{bound_of}
use Rattle.ca_node.specs.TreeView.{no_border, no_note}
use Rattle.ca_range.specs.Opening.{begun_at}
use Rattle.ca_range.proofs.opening.begin_with.Given as goal

abbrev pub ghosts-open_own : goal.ghosts-open_own
ghosts-open_own g a = record { begun = begun_at a.own (bound_of a.lo); border = no_border; last = no_note }
