use Rattle.ca_order.proofs.CodeParts.{cell_codes, cell_front, cell_is, no_cell_there, other_cell}
use Rattle.ca_order.proofs.codes.Codes.open_cell.Goals as goal

pub returns-in_err-tag : goal.returns-in_err-tag
returns-in_err-tag c = rw c.from_residual.ensures (no_cell_there c.args.self.bytes.now c.args.self.terms c.in_err-tag.ensures.cases)

pub returns-then-tag-ne-CONS : goal.returns-then-tag-ne-CONS
returns-then-tag-ne-CONS c =
    other_cell c.args.self.bytes.now c.in_ok-tag.inside.now c.in_ok-tag.tag.now c.args.self.terms c.in_ok-tag.ensures.cases.0 c.if-tag-ne-CONS.true

pub invariant_of-result : goal.invariant_of-result
invariant_of-result c = record {
  terms = cell_codes c.in_ok-tag.inside.now c.args.self.terms.0
      (cell_front c.args.self.bytes.now c.in_ok-tag.inside.now c.in_ok-tag.tag.now c.args.self.terms c.in_ok-tag.ensures.cases.0 c.if-tag-ne-CONS.false);
}

pub returns : goal.returns
returns c =
    cell_is c.in_ok-tag.inside.now c.args.self.terms.0
    (cell_front c.args.self.bytes.now c.in_ok-tag.inside.now c.in_ok-tag.tag.now c.args.self.terms c.in_ok-tag.ensures.cases.0 c.if-tag-ne-CONS.false) c.result-1.given.0
