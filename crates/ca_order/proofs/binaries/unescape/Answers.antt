use Rattle.ca_order.proofs.Unescaped.{escape_is_zero, left_more, parts_more, parts_all, parts_none}
use Rattle.ca_order.proofs.binaries.unescape.Goals as goal

pub loop-run-init : goal.loop-run-init
loop-run-init c = record { left = c.requires; parts = parts_none c.in_ok-inside.inside.items c.args.body.now c.in_ok-inside.ensures.items }

pub unreachable-requires : goal.unreachable-requires
unreachable-requires c =
    escape_is_zero c.loop-run.invariant.left.0 c.in-Some.run'.now c.loop-run.rest.now c.in-Some.behind.now c.after_zero.result c.in-Some.ensures.0
    c.loop-run.invariant.left.1 c.in-Some.ensures.1 c.after_zero.ensures c.in_default-after_zero.not-Zero

pub loop-run-preserved : goal.loop-run-preserved
loop-run-preserved c =
    let run = c.in-Some.run'.now in
    let behind = c.in-Some.behind.now in
    let more = c.in-Zero.more.now in
    record {
      left = left_more c.loop-run.invariant.left.0 run c.loop-run.rest.now behind more c.in-Some.ensures.0 c.loop-run.invariant.left.1 c.in-Some.ensures.1
          c.in-Zero.ensures;
      parts =
          parts_more c.loop-run.inside.items c.extend_from_slice.new.self.items c.push.new.self.items run c.loop-run.rest.now behind more c.args.body.now
          c.in-Some.ensures.0 c.in-Some.ensures.1 c.in-Zero.ensures c.loop-run.invariant.parts
          c.in_ok-extend_from_slice.ensures.items c.in_ok-push.ensures.items;
    }

pub returns : goal.returns
returns c =
    parts_all c.loop-run.inside.items c.extend_from_slice-2.new.self.items c.loop-run.rest.now c.args.body.now c.in_default.ensures c.loop-run.invariant.parts
    c.in_ok-extend_from_slice-2.ensures.items
