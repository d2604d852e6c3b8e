use Rattle.std.proofs.Common.{arith}
use Rattle.ca_order.proofs.AtomParts.{run_is_text}
use Rattle.ca_order.proofs.atoms.short_text.Goals as goal

pub returns-in-Ok : goal.returns-in-Ok
returns-in-Ok c =
    run_is_text c.args.bytes.now c.in_ok-run.run'.now c.in-Ok.text.now c.in_ok-run.rest.now
    c.in_ok-run.ensures c.in-Ok.ensures.cases
    (omega (arith, c.if-run-gt-MOST_CODE_POINTS.false))
