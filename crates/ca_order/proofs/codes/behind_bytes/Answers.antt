use Rattle.std.proofs.Common.{arith}
use Rattle.ca_order.proofs.Fronts.{eight_other, eight_same, met_eight, met_left, short_take, eight_bytes}
use Rattle.ca_order.proofs.codes.behind_bytes.Goals as goal

pub returns-then-from_le_bytes : goal.returns-then-from_le_bytes
returns-then-from_le_bytes c =
    eight_other c.args.bytes.now c.args.front.now c.loop-eight.rest.now c.loop-eight.wanted.now c.in-Some.eight.now c.in_ok-found.found.now
    c.from_le_bytes-in-Some.result c.from_le_bytes.result c.loop-eight.invariant
    (omega (arith, c.in-Some.ensures.cases.2))
    c.in-Some.ensures.cases.0 c.in_ok-found.ensures.cases.0 c.from_le_bytes-in-Some.ensures c.from_le_bytes.ensures c.if-from_le_bytes.true

pub loop-eight-preserved : goal.loop-eight-preserved
loop-eight-preserved c =
    met_eight c.args.bytes.now c.args.front.now c.loop-eight.rest.now c.loop-eight.wanted.now c.in-Some.eight.now c.in-Some.more.now
    c.in_ok-found.found.now c.in_ok-found.behind.now c.loop-eight.invariant
    c.in-Some.ensures.cases.0 c.in-Some.ensures.cases.1 c.in_ok-found.ensures.cases.0 c.in_ok-found.ensures.cases.1
    (eight_same c.in-Some.eight.now c.in_ok-found.found.now c.from_le_bytes-in-Some.result c.from_le_bytes.result
    (short_take c.loop-eight.wanted.now c.in-Some.eight.now (omega (arith, c.in-Some.ensures.cases.2)) c.in-Some.ensures.cases.0)
    (short_take c.loop-eight.rest.now c.in_ok-found.found.now (omega (arith, c.in_ok-found.ensures.cases.2)) c.in_ok-found.ensures.cases.0)
    (eight_bytes c.args.front.now c.loop-eight.invariant.met c.loop-eight.wanted.now c.in-Some.eight.now (λ k. (c.type_inv.front k).fits)
    c.loop-eight.invariant.front_is c.in-Some.ensures.cases.0)
    (eight_bytes c.args.bytes.now c.loop-eight.invariant.met c.loop-eight.rest.now c.in_ok-found.found.now (λ k. (c.type_inv.bytes k).fits)
    c.loop-eight.invariant.bytes_is c.in_ok-found.ensures.cases.0)
    c.from_le_bytes-in-Some.ensures c.from_le_bytes.ensures c.if-from_le_bytes.false)

pub returns : goal.returns
returns c = met_left c.args.bytes.now c.args.front.now c.loop-eight.rest.now c.loop-eight.wanted.now c.behind_few.result c.loop-eight.invariant c.behind_few.ensures
