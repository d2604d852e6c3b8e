use Rattle.std.proofs.Common.{◌<◌, ◌^◌, ◌∙◌, ap}
use Rattle.ca_term.specs.Tree.{Integer}
use Rattle.ca_order.proofs.Lasts.{pos_term, neg_term, digits_fit, cast_pos, cast_neg}
use Rattle.ca_order.proofs.reading.read_integer.Goals as goal

pub overflow_cast-number : goal.overflow_cast-number
overflow_cast-number c = record { sfits = digits_fit _ _ _ c.in_ok-number.number _ c.in_ok-number.ensures }

pub overflow_cast-number-in-false : goal.overflow_cast-number-in-false
overflow_cast-number-in-false c = record { sfits = digits_fit _ _ _ c.in_ok-number.number _ c.in_ok-number.ensures }

pub returns-in-true : goal.returns-in-true
returns-in-true c =
    let small : c.in_ok-number.number < 2 ^ 63 = digits_fit _ _ _ c.in_ok-number.number _ c.in_ok-number.ensures in
    neg_term _ _ _ c.in_ok-number.number _ _ c.in-true.is c.in_ok-number.ensures (c.int.ensures ∙ ap Integer (cast_neg c.in_ok-number.number small))

pub returns-in-false : goal.returns-in-false
returns-in-false c =
    let small : c.in_ok-number.number < 2 ^ 63 = digits_fit _ _ _ c.in_ok-number.number _ c.in_ok-number.ensures in
    pos_term _ _ _ c.in_ok-number.number _ _ c.in-false.is c.in_ok-number.ensures (c.int-in-false.ensures ∙ ap Integer (cast_pos c.in_ok-number.number small))
