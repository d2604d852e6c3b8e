use Rattle.std.proofs.Common.{arith}
use Rattle.ca_base.proofs.SharedFronts.{left_trimmed, right_trimmed, both_trimmed}
use Rattle.ca_base.proofs.uniting.trim_both.Goals as goal

pub returns-then-many-eq0 : goal.returns-then-many-eq0
returns-then-many-eq0 c = left_trimmed c.args.low.now c.args.high.now c.args.many c.args.more c.trim-both.result c.if-many-eq0.true c.trim-both.ensures

pub returns-then-more-eq0 : goal.returns-then-more-eq0
returns-then-more-eq0 c = let n = c.if-many-eq0.false in
    right_trimmed c.args.low.now c.args.high.now c.args.many c.args.more c.trim-both-then-more-eq0.result (omega arith) c.if-more-eq0.true
    c.trim-both-then-more-eq0.ensures

pub returns : goal.returns
returns c = let n = c.if-many-eq0.false in let m = c.if-more-eq0.false in
    both_trimmed c.args.low.now c.args.high.now c.args.many c.args.more c.trim.result c.trim-2.result (omega arith) (omega arith) c.trim.ensures
    c.trim-2.ensures
