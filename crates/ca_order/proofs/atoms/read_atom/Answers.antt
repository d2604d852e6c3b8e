use Rattle.ca_order.proofs.Opened.{opened_no_zero}
use Rattle.ca_order.proofs.AtomParts.{begins_atom}
use Rattle.ca_order.proofs.atoms.read_atom.Goals as goal

pub returns-in-Some : goal.returns-in-Some
returns-in-Some c =
    begins_atom c.args.bytes.now c.in-Some.text.now c.in-Some.rest.now c.in-Some.text.now
    c.in_ok-atom.field-0 c.in-Some.ensures.1
    (opened_no_zero c.in-Some.text.now c.in-Some.ensures.0) c.in_ok-atom.ensures.ok
