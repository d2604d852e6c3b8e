use Rattle.std.proofs.Common.{arith}
use Rattle.ca_base.proofs.Heads.{head_word}
use Rattle.ca_base.proofs.writing.head_of.Goals as goal

pub returns-clause-head : goal.returns-clause-head
returns-clause-head c = omega (arith, head_word c.args.key.now c.word_of.result c.word_of.type_inv c.word_of.ensures)
