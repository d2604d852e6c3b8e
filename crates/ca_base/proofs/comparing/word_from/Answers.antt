use Rattle.ca_node.proofs.KeyOrder.{first_word}
use Rattle.ca_base.proofs.comparing.word_from.Goals as goal

pub returns-then-from-eq0 : goal.returns-then-from-eq0
returns-then-from-eq0 c = first_word c.args.key.now c.args.from c.args.front c.if-from-eq0.true c.requires.front.front
