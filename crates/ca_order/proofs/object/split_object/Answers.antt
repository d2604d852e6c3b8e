use Rattle.ca_order.proofs.KeyPlaces.{no_object, no_empty_object, object, size_fits, split}
use Rattle.ca_order.proofs.object.split_object.Goals as goal

pub split_size-requires : goal.split_size-requires
split_size-requires c =
    size_fits c.args.code.now c.in_ok-tag.inside.now
    (object c.args.code.now c.in_ok-tag.inside.now c.in_ok-tag.tag.now c.requires c.in_ok-tag.ensures.cases.0 c.if-tag-ne-TUPLE.false)

pub returns-then-tag-ne-TUPLE : goal.returns-then-tag-ne-TUPLE
returns-then-tag-ne-TUPLE c = no_object c.args.code.now c.in_ok-tag.inside.now c.in_ok-tag.tag.now c.in_ok-tag.ensures.cases.0 c.if-tag-ne-TUPLE.true

pub returns-in_err-tag : goal.returns-in_err-tag
returns-in_err-tag c = rw c.from_residual.ensures (no_empty_object c.args.code.now c.in_err-tag.ensures.cases)

pub returns : goal.returns
returns c =
    split c.args.code.now c.in_ok-tag.inside.now c.split_size.result.1.now c.split_size.result.0
    (object c.args.code.now c.in_ok-tag.inside.now c.in_ok-tag.tag.now c.requires c.in_ok-tag.ensures.cases.0 c.if-tag-ne-TUPLE.false) c.split_size.ensures.size
