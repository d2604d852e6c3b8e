use Rattle.ca_term.specs.Tree.{AreBytes}
use Rattle.ca_order.proofs.BinaryParts.{no_escaped_fault, same_end, rest_shorter}
use Rattle.ca_order.proofs.object.skip_any_escaped.Goals as goal

pub unreachable-requires : goal.unreachable-requires
unreachable-requires c =
    let all : AreBytes c.args.bytes.now = λ k. (c.type_inv.bytes k).fits in
    no_escaped_fault c.args.bytes.now c.requires.0 c.requires.1 c.in_default.field-0 all
    c.requires.2 c.in_default.ensures

pub returns-clause-rest : goal.returns-clause-rest
returns-clause-rest c =
    λ inside end p. same_end c.args.bytes.now c.in-Ok.field-0-0.now c.in-Ok.rest.now inside end
    c.in-Ok.ensures p

pub returns-clause-shorter : goal.returns-clause-shorter
returns-clause-shorter c =
    rest_shorter c.args.bytes.now c.in-Ok.field-0-0.now c.in-Ok.rest.now c.in-Ok.ensures
