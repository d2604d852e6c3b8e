use Rattle.std.proofs.Common.{arith}
use Rattle.std.proofs.lemmas.List.{take_all}
use Rattle.ca_text.proofs.Fronts.{begins_by, begins_on, flat_step}
use Rattle.ca_text.specs.Text.{escaped_byte}
use Rattle.ca_text.proofs.binary.put_escaped.Goals as goal

pub returns-in_err-put_shown_byte-clause-front : goal.returns-in_err-put_shown_byte-clause-front
returns-in_err-put_shown_byte-clause-front c = begins_on (begins_by _ _ c.loop-b.invariant) c.in_err-put_shown_byte.ensures.front

pub loop-b-preserved : goal.loop-b-preserved
loop-b-preserved c =
    flat_step escaped_byte c.args.into.now.items c.loop-b.into.items c.put_shown_byte.new.into.items c.args.bytes.now c.loop-b.b-index 0 c.loop-b-test.true
    c.loop-b.invariant c.in_ok-put_shown_byte.ensures.ok

pub returns-clause-ok : goal.returns-clause-ok
returns-clause-ok c = rw (take_all c.loop-b.b-index c.args.bytes.now (omega arith)) at c.loop-b.invariant

pub returns-clause-front : goal.returns-clause-front
returns-clause-front c = begins_by _ _ c.loop-b.invariant
