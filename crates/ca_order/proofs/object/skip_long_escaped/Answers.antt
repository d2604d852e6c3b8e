use Rattle.ca_order.proofs.BinaryParts.{same_end, rest_shorter}
use Rattle.ca_order.proofs.object.skip_long_escaped.Goals as goal

pub returns-in-Some-clause-rest : goal.returns-in-Some-clause-rest
returns-in-Some-clause-rest c =
    λ inside end p. same_end c.args.bytes.now c.in-Some.field-0-0.now c.in-Some.rest.now inside end c.in-Some.ensures.1 p

pub returns-in-Some-clause-shorter : goal.returns-in-Some-clause-shorter
returns-in-Some-clause-shorter c =
    rest_shorter c.args.bytes.now c.in-Some.field-0-0.now c.in-Some.rest.now c.in-Some.ensures.1
