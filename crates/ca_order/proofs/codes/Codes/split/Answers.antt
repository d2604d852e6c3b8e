use Rattle.ca_order.proofs.CodeParts.{behind_is, front_is, halves, has_one, split_is}
use Rattle.ca_order.proofs.codes.Codes.split.Goals as goal

pub skip_one-behind-requires : goal.skip_one-behind-requires
skip_one-behind-requires c = has_one c.args.self.bytes.now c.args.self.terms.0 (halves c.args.self.bytes.now c.args.self.terms c.requires)

pub invariant_of-result : goal.invariant_of-result
invariant_of-result c =
    let bytes = c.args.self.bytes.now in
    let h = halves bytes c.args.self.terms c.requires in
    record {
      code = (
        h.first,
        h.bounded,
        front_is bytes c.args.self.terms.0 h c.split_at.result.0.now c.skip_one-behind.result.now c.skip_one-behind.ensures.rest
            c.split_at.ensures.front,
      );
    }

pub invariant_of-result-2 : goal.invariant_of-result-2
invariant_of-result-2 c =
    let bytes = c.args.self.bytes.now in
    let h = halves bytes c.args.self.terms c.requires in
    record {
      terms = (
        h.others,
        h.rest,
        behind_is bytes c.args.self.terms.0 h c.split_at.result.0.now c.skip_one-behind.result.now c.skip_one-behind.ensures.rest
            c.split_at.ensures.front,
      );
    }

pub returns : goal.returns
returns c =
    let bytes = c.args.self.bytes.now in
    split_is bytes c.args.self.terms.0 (halves bytes c.args.self.terms c.requires) c.split_at.result.0.now c.skip_one-behind.result.now
    c.skip_one-behind.ensures.rest c.split_at.ensures.front c.result-1.given.0 c.result-2-1.given.0
