use Rattle.std.proofs.lemmas.Result.{err_from_is_err_and}
use Rattle.ca_text.proofs.Loops.{points_start, points_go_on, points_closed, points_fail, points_end, points_end_fail}
use Rattle.ca_text.proofs.character.characters.Goals as goal

pub loop-init : goal.loop-init
loop-init c = rw c.new-points.ensures.items (points_start _ _ _ _ _)

pub returns-in_err-next : goal.returns-in_err-next
returns-in_err-next c =
    let p = err_from_is_err_and c.from_residual.result c.from_residual.ensures.1 in
    rw (p.1, p.2) (points_fail c.loop.invariant _ c.loop-test.true c.in_err-next.ensures)

pub returns-in_default : goal.returns-in_default
returns-in_default c = points_closed c.loop.invariant c.loop-test.true (rw c.in_default.is at c.in_ok-next.ensures)

pub loop-preserved : goal.loop-preserved
loop-preserved c = rw c.in_ok-push.ensures.items (points_go_on c.loop.invariant c.loop-test.true (rw c.in-Some.is at c.in_ok-next.ensures))

pub returns-in_err-after : goal.returns-in_err-after
returns-in_err-after c =
    let p = err_from_is_err_and c.from_residual-in_err-after.result c.from_residual-in_err-after.ensures.1 in
    rw (p.1, p.2) (points_end_fail c.loop.invariant _ c.loop-test.false c.in_err-after.ensures)

pub returns : goal.returns
returns c = points_end c.loop.invariant c.loop-test.false c.in_ok-after.ensures
