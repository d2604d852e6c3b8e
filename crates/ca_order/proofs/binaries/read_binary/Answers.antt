use Rattle.ca_order.proofs.BinaryParts.{begins_plain_binary}
use Rattle.ca_order.proofs.binaries.read_binary.Goals as goal

pub returns-in-Some : goal.returns-in-Some
returns-in-Some c =
    begins_plain_binary c.args.bytes.now c.in-Some.run'.now c.in-Some.rest.now c.in_ok-bin.field-0
    c.in-Some.ensures.1 c.in-Some.ensures.0
    c.in_ok-bin.ensures.ok
