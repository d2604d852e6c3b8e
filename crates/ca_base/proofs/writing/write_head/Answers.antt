use Rattle.ca_base.proofs.LastItems.{head_written}
use Rattle.ca_base.proofs.writing.write_head.Goals as goal

pub returns-clause-filled : goal.returns-clause-filled
returns-clause-filled c = head_written c.args.row c.args.front.now.prefix.now c.args.front.now.level
    c.args.many c.args.front.now.statistic c.args.pass.now.seat.me c.write_words.new.pass.seat.me
    c.write_prefix.new.pass.seat.me c.write_words.ensures.filled c.write_prefix.ensures.filled
