use Rattle.std.proofs.Common.{◌≡◌, length, arith, ap}
use Rattle.ca_order.specs.Languages.{HasSize}
use Rattle.ca_order.proofs.Faults.{fault_at}
use Rattle.ca_order.proofs.Turned.{same_first}
use Rattle.ca_order.proofs.Sizes.{stuck_byte}
use Rattle.ca_order.proofs.reading.read_byte.Goals as goal

pub returns-in_default : goal.returns-in_default
returns-in_default c =
    let bytes = c.args.bytes.now in
    fault_at (HasSize 0 c.args.most) bytes bytes c.stuck.result c.stuck.ensures
    (stuck_byte c.args.most bytes (λ b more e h. absurd (omega (arith, ap length e, c.in_default.ensures.cases))))

pub returns-then-number-most : goal.returns-then-number-most
returns-then-number-most c =
    let bytes = c.args.bytes.now in
    fault_at (HasSize 0 c.args.most) bytes bytes c.stuck-then-number-most.result c.stuck-then-number-most.ensures
    (stuck_byte c.args.most bytes (λ b more e h. let first : b ≡ c.in-Some.byte.now = same_first b c.in-Some.byte.now more c.in-Some.rest.now bytes e
    c.in-Some.ensures.cases.0 in absurd (omega (arith, first, c.from-number.ensures))))
