use Rattle.std.proofs.Common.{arith, length-drop, length, drop, ◌≤◌, ◌-◌, ◌∙◌, take_all}
use Rattle.ca_outside.proofs.Growth.{grows_by}
use Rattle.ca_outside.proofs.sink.write_out.Goals as goal

pub loop-at-preserved : goal.loop-at-preserved
loop-at-preserved g c =
    let rest = drop c.loop-at.at c.args.bytes.now in
    let whole : length rest ≤ length c.args.bytes.now - c.loop-at.at = omega (arith, length-drop c.loop-at.at c.args.bytes.now) in
    record {
      in_range = omega (arith, length-drop c.loop-at.at c.args.bytes.now, c.in_ok-at.ensures.count.1);
      taken = grows_by _ _ _ _ _ _ c.loop-at.invariant.taken (rw (take_all (length c.args.bytes.now - c.loop-at.at) rest whole) at c.in_ok-at.ensures.count.2);
      steady = c.in_ok-at.ensures.steady ∙ c.loop-at.invariant.steady;
    }
