use Rattle.std.proofs.Common.{arith}
use Rattle.ca_spec.proofs.Calls.{only_form, call_form}
use Rattle.ca_spec.proofs.expressions.+expression.Goals as goal

pub tuple-returns-in-len1-clause-well : goal.tuple-returns-in-len1-clause-well
tuple-returns-in-len1-clause-well t c =
    rw (only_form c.args.scope.now c.args.items.now c.only-item.result (omega arith) (omega arith) c.only-item.is) c.inner_tuple.ensures.well

pub tuple-returns-in-len1-clause-stop : goal.tuple-returns-in-len1-clause-stop
tuple-returns-in-len1-clause-stop t c =
    rw (only_form c.args.scope.now c.args.items.now c.only-item.result (omega arith) (omega arith) c.only-item.is) c.inner_tuple.ensures.stop

pub tuple-returns-in-len1-up-clause-well : goal.tuple-returns-in-len1-up-clause-well
tuple-returns-in-len1-up-clause-well t c =
    rw (call_form c.args.scope.now c.args.items.now c.name-item.result (omega arith) c.name-item.is) c.call.ensures.well

pub tuple-returns-in-len1-up-clause-stop : goal.tuple-returns-in-len1-up-clause-stop
tuple-returns-in-len1-up-clause-stop t c =
    rw (call_form c.args.scope.now c.args.items.now c.name-item.result (omega arith) c.name-item.is) c.call.ensures.stop
