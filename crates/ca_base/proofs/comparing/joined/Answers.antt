use Rattle.std.proofs.Common.{arith}
use Rattle.ca_node.proofs.WordBytes.{joined_bytes}
use Rattle.ca_base.proofs.comparing.joined.Goals as goal

pub returns : goal.returns
returns c = joined_bytes c.args.skip c.args.word c.args.next (omega arith) (omega arith)
