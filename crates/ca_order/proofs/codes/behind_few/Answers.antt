use Rattle.ca_order.proofs.Fronts.{met_other}
use Rattle.ca_order.proofs.codes.behind_few.Goals as goal

pub returns-then-byte-first : goal.returns-then-byte-first
returns-then-byte-first c =
    met_other c.args.bytes.now c.args.front.now c.loop-first.rest.now c.loop-first.wanted.now c.in-Some.more.now c.in_ok-byte.behind.now
    c.in-Some.first.now c.in_ok-byte.byte.now c.loop-first.invariant c.in-Some.ensures.cases.0 c.in_ok-byte.ensures.cases.0 c.if-byte-first.true
