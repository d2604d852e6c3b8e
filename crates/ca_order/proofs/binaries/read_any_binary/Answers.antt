use Rattle.ca_order.specs.Languages.{HasBytes}
use Rattle.ca_order.proofs.Faults.{refused, stuck_is_fault}
use Rattle.ca_order.proofs.BinaryParts.{begins_binary, is_opened}
use Rattle.ca_order.proofs.binaries.read_any_binary.Goals as goal

pub unescape-requires : goal.unescape-requires
unescape-requires c =
    is_opened c.args.bytes.now c.in_ok-body.body.now c.in_ok-body.rest.now c.in_ok-body.ensures

pub returns : goal.returns
returns c =
    begins_binary c.args.bytes.now c.in_ok-body.body.now c.in_ok-body.rest.now
    c.in_ok-inside.inside.items c.bin_of.result c.in_ok-body.ensures
    c.in_ok-inside.ensures c.bin_of.ensures

pub returns-in_err-body : goal.returns-in_err-body
returns-in_err-body c =
    refused _ _ _ _ c.from_residual.ensures.1 (stuck_is_fault HasBytes c.args.bytes.now
    c.in_err-body.field-0.0 c.in_err-body.ensures)
