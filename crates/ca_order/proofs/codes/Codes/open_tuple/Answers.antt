use Rattle.ca_order.proofs.CodeParts.{no_tuple_there, opened, opened_is, other_tuple, size_there, tuple_front}
use Rattle.ca_order.proofs.codes.Codes.open_tuple.Goals as goal

pub returns-in_err-tag : goal.returns-in_err-tag
returns-in_err-tag c = rw c.from_residual.ensures (no_tuple_there c.args.self.bytes.now c.args.self.terms c.in_err-tag.ensures.cases)

pub returns-then-tag-ne-TUPLE : goal.returns-then-tag-ne-TUPLE
returns-then-tag-ne-TUPLE c =
    other_tuple c.args.self.bytes.now c.in_ok-tag.inside.now c.in_ok-tag.tag.now c.args.self.terms c.in_ok-tag.ensures.cases.0 c.if-tag-ne-TUPLE.true

pub split_size-count-requires : goal.split_size-count-requires
split_size-count-requires c =
    size_there c.in_ok-tag.inside.now c.args.self.terms.0
    (tuple_front c.args.self.bytes.now c.in_ok-tag.inside.now c.in_ok-tag.tag.now c.args.self.terms c.in_ok-tag.ensures.cases.0 c.if-tag-ne-TUPLE.false)

pub invariant_of-result : goal.invariant_of-result
invariant_of-result c = record {
  terms = opened c.in_ok-tag.inside.now c.args.self.terms.0
      (tuple_front c.args.self.bytes.now c.in_ok-tag.inside.now c.in_ok-tag.tag.now c.args.self.terms c.in_ok-tag.ensures.cases.0 c.if-tag-ne-TUPLE.false)
      c.split_size-count.result.0 c.split_size-count.result.1.now c.split_size-count.ensures.size;
}

pub returns : goal.returns
returns c =
    opened_is c.in_ok-tag.inside.now c.args.self.terms.0
    (tuple_front c.args.self.bytes.now c.in_ok-tag.inside.now c.in_ok-tag.tag.now c.args.self.terms c.in_ok-tag.ensures.cases.0 c.if-tag-ne-TUPLE.false)
    c.split_size-count.result.0 c.split_size-count.result.1.now c.split_size-count.ensures.size c.result-1.given.0
