use Rattle.std.proofs.Common.{◌<◌, length, arith, subst}
use Rattle.std.proofs.lemmas.Bool.Decides.{nat_tests}
use Rattle.ca_term.specs.declared.bounds.TheConstants.{MOST_DEPTH}
use Rattle.ca_term.specs.Levels.{HasTerm}
use Rattle.ca_order.specs.Reads.{IsReadFault}
use Rattle.ca_order.proofs.Decoded.{decode_stuck, decode_rest}
use Rattle.ca_order.proofs.reading.decode.Goals as goal

pub returns-else-is_empty-clause-fault : goal.returns-else-is_empty-clause-fault
returns-else-is_empty-clause-fault c =
    let some : 0 < length c.in-Ok.rest.now = grind (arith, nat_tests) in
    decode_rest c.args.code.now c.in-Ok.term c.in-Ok.rest.now c.in-Ok.ensures some

pub returns-in-Err-Stuck-clause-fault : goal.returns-in-Err-Stuck-clause-fault
returns-in-Err-Stuck-clause-fault c =
    decode_stuck c.args.code.now c.in-Err-Stuck.left (subst (IsReadFault (HasTerm MOST_DEPTH) c.args.code.now) c.in-Err-Stuck.field-0-is c.in-Err-Stuck.ensures)
