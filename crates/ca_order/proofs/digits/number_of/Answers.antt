use Rattle.std.proofs.Common.{ℕ, ◌+◌, ◌*◌, arith, sym, ◌∙◌, ap}
use Rattle.ca_term.specs.Grammar.{number}
use Rattle.ca_order.proofs.Turned.{turned_nil, fits_more, small_more, number_more}
use Rattle.ca_order.proofs.digits.number_of.Goals as goal

pub loop-digit-init : goal.loop-digit-init
loop-digit-init c = record { value = sym (ap number (turned_nil c.args.negative)); small = omega arith }

pub overflow_mul-number : goal.overflow_mul-number
overflow_mul-number c = omega (arith, fits_more c.loop-digit.number c.loop-digit.digit-index c.loop-digit.invariant.small (omega arith))

pub overflow_add-number : goal.overflow_add-number
overflow_add-number c = omega (arith, fits_more c.loop-digit.number c.loop-digit.digit-index c.loop-digit.invariant.small (omega arith))

pub loop-digit-preserved : goal.loop-digit-preserved
loop-digit-preserved c =
    let n = c.loop-digit.number in
    let i = c.loop-digit.digit-index in
    let ds = c.args.digits.now in
    let m = number_more c.args.negative ds i c.from.result (omega arith) (c.from.ensures ∙ c.turned.ensures) in
    record {
      value = ap (λ (x : ℕ). x * 256 + c.from.result) c.loop-digit.invariant.value ∙ sym m;
      small = small_more n i c.from.result c.loop-digit.invariant.small (omega arith);
    }
