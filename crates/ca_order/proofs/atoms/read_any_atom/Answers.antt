use Rattle.std.proofs.Common.{ℕ, List, sym, ◌∙◌, ap, subst}
use Rattle.ca_term.specs.Tree.{Atom, IsNarrow}
use Rattle.ca_order.proofs.AtomParts.{begins_atom, text_narrow}
use Rattle.ca_order.proofs.atoms.read_any_atom.Goals as goal

pub atom_of-requires : goal.atom_of-requires
atom_of-requires c =
    let items = c.in_ok-text.text.items in
    subst (λ (x : List ℕ). IsNarrow (Atom x)) (sym c.as_slice.ensures.value)
    (text_narrow c.args.bytes.now c.in_ok-body.body.now c.in_ok-body.rest.now items
    c.in_ok-body.ensures c.in_ok-text.ensures)

pub returns : goal.returns
returns c =
    begins_atom c.args.bytes.now c.in_ok-body.body.now c.in_ok-body.rest.now
    c.in_ok-text.text.items c.in_ok-atom_of.field-0 c.in_ok-body.ensures
    c.in_ok-text.ensures (c.in_ok-atom_of.ensures ∙ ap Atom c.as_slice.ensures.value)
