use Rattle.std.proofs.lemmas.Result.{err_from_is_err_and}
use Rattle.ca_text.proofs.Loops.{brackets_start, brackets_fail, brackets_go_on, brackets_end}
use Rattle.ca_text.proofs.read.brackets.Goals as goal

pub loop-init : goal.loop-init
loop-init c = brackets_start _ _

pub returns-in_err-rest : goal.returns-in_err-rest
returns-in_err-rest c =
    let p = err_from_is_err_and c.from_residual.result c.from_residual.ensures.1 in
    rw (p.1, p.2) (brackets_fail c.loop.invariant _ c.loop-test.true (rw c.skip.ensures.value at c.in_err-rest.ensures))

pub loop-preserved : goal.loop-preserved
loop-preserved c = brackets_go_on c.loop.invariant c.loop-test.true (rw c.skip.ensures.value at c.in_ok-rest.ensures)

pub returns : goal.returns
returns c = brackets_end c.loop.invariant c.loop-test.false
