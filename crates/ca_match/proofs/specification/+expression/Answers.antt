-- The forms of tuples.
use Rattle.std.proofs.Common.{arith}
use Rattle.ca_match.specs.SpecificationView.{part_of}
use Rattle.ca_match.proofs.Specifications.{only_form, call_form}
use Rattle.ca_match.proofs.specification.+expression.Goals as goal

pub is_form-returns-in-len1 : goal.is_form-returns-in-len1
is_form-returns-in-len1 t c =
    rw (only_form c.args.head.now (part_of c.args.part) c.args.items.now c.only-item.result (omega arith) (omega arith) c.only-item.is) c.is_inner_tuple.ensures

pub is_form-returns-in-len1-up : goal.is_form-returns-in-len1-up
is_form-returns-in-len1-up t c =
    rw (call_form c.args.head.now (part_of c.args.part) c.args.items.now c.name-item.result (omega arith) c.name-item.is) c.is_call.ensures
