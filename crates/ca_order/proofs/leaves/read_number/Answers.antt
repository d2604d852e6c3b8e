use Rattle.std.proofs.Common.{◌<◌, ◌^◌, ◌∙◌, ap}
use Rattle.ca_term.specs.Tree.{Integer}
use Rattle.ca_order.proofs.Lasts.{pos_term, neg_term, digits_fit, cast_pos, cast_neg}
use Rattle.ca_order.proofs.leaves.read_number.Goals as goal

pub overflow_cast-result : goal.overflow_cast-result
overflow_cast-result c = record { sfits = digits_fit _ _ _ c.in-Ok.number _ c.in-Ok.ensures }

pub overflow_cast-result-in-false : goal.overflow_cast-result-in-false
overflow_cast-result-in-false c = record { sfits = digits_fit _ _ _ c.in-Ok.number _ c.in-Ok.ensures }

pub returns-in-true : goal.returns-in-true
returns-in-true c =
    let small : c.in-Ok.number < 2 ^ 63 = digits_fit _ _ _ c.in-Ok.number _ c.in-Ok.ensures in
    neg_term _ _ _ c.in-Ok.number _ _ c.in-true.is c.in-Ok.ensures (ap Integer (cast_neg c.in-Ok.number small))

pub returns-in-false : goal.returns-in-false
returns-in-false c =
    let small : c.in-Ok.number < 2 ^ 63 = digits_fit _ _ _ c.in-Ok.number _ c.in-Ok.ensures in
    pos_term _ _ _ c.in-Ok.number _ _ c.in-false.is c.in-Ok.ensures (ap Integer (cast_pos c.in-Ok.number small))
