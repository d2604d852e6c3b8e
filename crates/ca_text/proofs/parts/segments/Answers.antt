use Rattle.std.proofs.Common.{◌≡◌, ℕ, List, ◌++◌, ap, ◌∙◌}
use Rattle.std.proofs.lemmas.Result.{err_from_is_err_and}
use Rattle.ca_text.proofs.Loops.{series_start, series_goes_on, series_closed, series_fails, series_ends}
use Rattle.ca_text.proofs.parts.segments.Goals as goal

pub loop-i-init : goal.loop-i-init
loop-i-init c = rw c.new-bytes.ensures.items (series_start _ _ _)

pub returns-in_err-part : goal.returns-in_err-part
returns-in_err-part c =
    let p = err_from_is_err_and c.from_residual.result c.from_residual.ensures.1 in
    rw (p.1, p.2) (series_fails c.loop-i.invariant _ c.loop-i-test.true c.in_err-part.ensures)

pub returns-then-not-more : goal.returns-then-not-more
returns-then-not-more c =
    let e : c.extend_from_slice.new.self.items ≡ c.loop-i.bytes.items ++ c.in_ok-part.part.items =
    c.in_ok-extend_from_slice.ensures.items ∙ ap (λ (x : List ℕ). c.loop-i.bytes.items ++ x) c.as_slice.ensures.value in
    rw e (series_closed c.loop-i.invariant c.loop-i-test.true (rw c.if-not-more.true at c.in_ok-part.ensures))

pub loop-i-preserved : goal.loop-i-preserved
loop-i-preserved c =
    let e : c.extend_from_slice.new.self.items ≡ c.loop-i.bytes.items ++ c.in_ok-part.part.items =
    c.in_ok-extend_from_slice.ensures.items ∙ ap (λ (x : List ℕ). c.loop-i.bytes.items ++ x) c.as_slice.ensures.value in
    rw e (series_goes_on c.loop-i.invariant c.loop-i-test.true (rw c.if-not-more.false at c.in_ok-part.ensures))

pub returns : goal.returns
returns c = rw c.syntax_at.ensures (series_ends c.loop-i.invariant c.loop-i-test.false)
