use Rattle.ca_adapt.proofs.Forked.{forked_left, forked_right}
use Rattle.ca_adapt.proofs.looking.fork_at.Goals as goal
use Rattle.ca_adapt.proofs.looking.fork_at.Goals.{in-Left, in-Right}

pub returns-in-Root : goal.returns-in-Root
returns-in-Root c z u hung = c.in-Root.is

pub returns : goal.returns
returns c z u hung = elim c.match-cursor.branch [
  | in-Left w ↦ forked_left z u c.args.cursor.link c.args.cursor.above c.in-Some.above
      w.in-Left.route c.match-cursor.route c.in-Some.is w.in-Left.is w.route-is
      hung
  | in-Right w ↦ forked_right z u c.args.cursor.link c.args.cursor.above c.in-Some.above
      w.in-Right.route c.match-cursor.route c.in-Some.is w.in-Right.is
      w.route-is hung
]
