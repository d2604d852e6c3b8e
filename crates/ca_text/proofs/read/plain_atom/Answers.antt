use Rattle.ca_text.proofs.Names.{name_utf8}
use Rattle.ca_term.specs.declared.bounds.TheConstants.{MOST_CODE_POINTS}
use Rattle.ca_text.proofs.read.plain_atom.Goals as goal

pub unreachable-requires : goal.unreachable-requires
unreachable-requires c = c.in_default.ensures.cases.0
    (name_utf8 MOST_CODE_POINTS c.args.bytes.now c.in_ok-text.text.now c.in_ok-text.rest.now c.in_ok-text.ensures)
