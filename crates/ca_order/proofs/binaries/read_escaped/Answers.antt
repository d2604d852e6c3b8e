use Rattle.std.proofs.Common.{[], refl}
use Rattle.ca_term.specs.Tree.{AreBytes}
use Rattle.ca_order.specs.Languages.{HasBytes}
use Rattle.ca_order.proofs.Faults.{stuck_at}
use Rattle.ca_order.proofs.BinaryParts.{opened_none, opened_more, opened_end, opened_stuck, opened_short}
use Rattle.ca_order.proofs.binaries.read_escaped.Goals as goal

pub loop-behind-init : goal.loop-behind-init
loop-behind-init c = opened_none c.args.bytes.now

pub returns-in-End : goal.returns-in-End
returns-in-End c =
    let bytes = c.args.bytes.now in
    let all : AreBytes bytes = λ k. (c.type_inv.bytes k).fits in
    opened_end bytes c.loop-behind.rest.now c.in-Some.field-0-0.now c.in-Some.behind.now c.loop-behind.invariant all c.in-Some.ensures.0 c.in-Some.ensures.1
    c.in-End.end.now c.in-End.ensures

pub loop-behind-preserved : goal.loop-behind-preserved
loop-behind-preserved c =
    let bytes = c.args.bytes.now in
    let all : AreBytes bytes = λ k. (c.type_inv.bytes k).fits in
    opened_more bytes c.loop-behind.rest.now c.in-Some.field-0-0.now c.in-Some.behind.now c.in-Zero.more.now c.loop-behind.invariant all c.in-Some.ensures.0
    c.in-Some.ensures.1 c.in-Zero.ensures

pub returns-in-Neither : goal.returns-in-Neither
returns-in-Neither c =
    let bytes = c.args.bytes.now in
    let all : AreBytes bytes = λ k. (c.type_inv.bytes k).fits in
    stuck_at HasBytes bytes c.in-Some.behind.now c.stuck.result c.stuck.ensures
    (opened_stuck bytes c.loop-behind.rest.now c.in-Some.field-0-0.now c.in-Some.behind.now c.loop-behind.invariant all c.in-Some.ensures.0
    c.in-Some.ensures.1 c.in-Neither.ensures)

pub returns : goal.returns
returns c =
    let bytes = c.args.bytes.now in
    let all : AreBytes bytes = λ k. (c.type_inv.bytes k).fits in
    ([], refl, opened_short bytes c.loop-behind.rest.now c.loop-behind.invariant all c.in_default.ensures)
