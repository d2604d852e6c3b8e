use Rattle.ca_order.proofs.CodeParts.{behind_codes, behind_terms, not_in_front}
use Rattle.ca_order.proofs.codes.Codes.behind.Goals as goal

pub returns-in_err-rest : goal.returns-in_err-rest
returns-in_err-rest c =
    rw c.from_residual.ensures
    (not_in_front c.args.self.bytes.now c.args.part.bytes.now c.args.self.terms c.in_err-rest.ensures c.args.part.code.0 c.args.part.code.1
    c.args.part.code.2)

pub invariant_of-result : goal.invariant_of-result
invariant_of-result c = record {
  terms = behind_codes c.args.self.bytes.now c.args.part.bytes.now c.in_ok-rest.rest.now c.args.self.terms c.args.part.code c.in_ok-rest.ensures;
}

pub returns : goal.returns
returns c =
    behind_terms c.args.self.bytes.now c.args.part.bytes.now c.in_ok-rest.rest.now c.args.self.terms c.args.part.code c.in_ok-rest.ensures
    c.result-1.given.0 c.args.part.code.0 c.args.part.code.1 c.args.part.code.2
