use Rattle.std.proofs.Common.{refl}
use Rattle.ca_term.specs.Tree.{Atom, Binary}
use Rattle.ca_order.proofs.AtomParts.{begins_atom}
use Rattle.ca_order.proofs.BinaryParts.{begins_plain_binary}
use Rattle.ca_order.proofs.InFront.{nil_there, with_tag}
use Rattle.ca_order.proofs.Opened.{opened_no_zero}
use Rattle.ca_order.proofs.leaves.read_leaf.Goals as goal

pub returns-in-Some : goal.returns-in-Some
returns-in-Some c =
    let text = c.in-Some.text.now in
    with_tag c.in_ok-tag.tag.now 0x30 c.args.bytes.now c.in_ok-tag.inside.now c.in-Some.rest.now (Atom text) c.in_ok-tag.ensures.cases.0 c.in-48.is
    (begins_atom c.in_ok-tag.inside.now text c.in-Some.rest.now text (Atom text) c.in-Some.ensures.1 (opened_no_zero text c.in-Some.ensures.0) refl)

pub returns-in-96 : goal.returns-in-96
returns-in-96 c = nil_there c.in_ok-tag.tag.now c.args.bytes.now c.in_ok-tag.inside.now c.in_ok-tag.ensures.cases.0 c.in-96.is

pub returns-in-Some-run_to_end : goal.returns-in-Some-run_to_end
returns-in-Some-run_to_end c =
    let run = c.in-Some-run_to_end.run'.now in
    with_tag c.in_ok-tag.tag.now 0x80 c.args.bytes.now c.in_ok-tag.inside.now c.in-Some-run_to_end.rest.now (Binary run) c.in_ok-tag.ensures.cases.0 c.in-128.is
    (begins_plain_binary c.in_ok-tag.inside.now run c.in-Some-run_to_end.rest.now (Binary run) c.in-Some-run_to_end.ensures.1 c.in-Some-run_to_end.ensures.0 refl)
