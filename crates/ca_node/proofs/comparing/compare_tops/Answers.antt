use Rattle.std.proofs.Common.{◌∙◌, arith}
use Rattle.ca_node.proofs.WordBytes.{tops_compare}
use Rattle.ca_node.proofs.comparing.compare_tops.Goals as goal

pub returns : goal.returns
returns c = c.cmp.ensures
    ∙ tops_compare c.args.count c.args.word c.args.other (omega arith) (omega arith) (omega arith)
