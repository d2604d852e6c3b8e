use Rattle.std.proofs.Common.{arith}
use Rattle.ca_base.proofs.KeyWords.{last_word}
use Rattle.ca_base.proofs.comparing.next_word.Goals as goal

pub returns-else-from-lt8 : goal.returns-else-from-lt8
returns-else-from-lt8 c = let few = c.if-from-lt8.false in let some = c.if-left-eq0.false in
    last_word c.args.key.now c.args.from c.word_of-else-from-lt8.result c.joined.result few.1
    (omega arith) few.0
    c.word_of-else-from-lt8.ensures c.joined.ensures
