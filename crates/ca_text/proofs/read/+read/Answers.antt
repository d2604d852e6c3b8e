use Rattle.std.proofs.lemmas.Result.{err_from_is_err_and}
use Rattle.ca_text.proofs.Loops.{series_start, series_goes_on, series_closed, series_fails, series_ends, cells_start, cells_fail, cells_end, head_follows, inner_follows, last_follows}
use Rattle.ca_text.proofs.read.+read.Goals as goal
use Rattle.ca_text.proofs.read.+read.Goals.{cells-in-Head, cells-in-Inner}

pub elements-loop-i-init : goal.elements-loop-i-init
elements-loop-i-init t c = rw c.new-items.ensures.items (series_start _ _ _)

pub elements-returns-in_err-element : goal.elements-returns-in_err-element
elements-returns-in_err-element t c =
    let p = err_from_is_err_and c.from_residual.result c.from_residual.ensures.1 in
    rw (p.1, p.2) (series_fails c.loop-i.invariant _ c.loop-i-test.true c.in_err-element.ensures)

pub elements-returns-then-not-more : goal.elements-returns-then-not-more
elements-returns-then-not-more t c =
    rw c.in_ok-push.ensures.ok (series_closed c.loop-i.invariant c.loop-i-test.true (rw c.if-not-more.true at c.in_ok-element.ensures))

pub elements-loop-i-preserved : goal.elements-loop-i-preserved
elements-loop-i-preserved t c =
    rw c.in_ok-push.ensures.ok (series_goes_on c.loop-i.invariant c.loop-i-test.true (rw c.if-not-more.false at c.in_ok-element.ensures))

pub elements-returns : goal.elements-returns
elements-returns t c = rw c.syntax_at.ensures (series_ends c.loop-i.invariant c.loop-i-test.false)

pub cells-loop-init : goal.cells-loop-init
cells-loop-init t c = rw c.new-heads.ensures.items (cells_start _ _ _ _)

pub cells-returns-in_err-head : goal.cells-returns-in_err-head
cells-returns-in_err-head t c =
    let p = err_from_is_err_and c.from_residual.result c.from_residual.ensures.1 in
    rw (p.1, p.2) (cells_fail c.loop.invariant _ c.loop-test.true c.in_err-head.ensures)

pub cells-returns-in-Last : goal.cells-returns-in-Last
cells-returns-in-Last t c =
    let last = last_follows c.loop.invariant c.loop-test.true (rw c.in-Last.is at c.in_ok-head.ensures) in
    rw last (rw c.in_ok-push.ensures.ok at c.end_list.ensures)

pub cells-loop-preserved : goal.cells-loop-preserved
cells-loop-preserved t c =
    elim c.match-next-2.branch [
      | cells-in-Head w ↦
          rw (w.owed-is, w.rest-is, c.in_ok-push.ensures.ok) (head_follows c.loop.invariant c.loop-test.true (rw w.in-Head.is at c.in_ok-head.ensures))
      | cells-in-Inner w ↦
          rw (w.owed-is, w.rest-is, c.in_ok-push.ensures.ok) (inner_follows c.loop.invariant c.loop-test.true (rw w.in-Inner.is at c.in_ok-head.ensures))
    ]

pub cells-returns : goal.cells-returns
cells-returns t c = rw c.syntax_at.ensures (cells_end c.loop.invariant c.loop-test.false)
