use Rattle.std.proofs.Common.{◌++◌, [], ◌∷◌, get_or, ap, sym, ◌∙◌, arith}
use Rattle.std.proofs.lemmas.List.{take_all, take_more}
use Rattle.ca_text.proofs.parts.bytes_of.Goals as goal

pub loop-point-preserved : goal.loop-point-preserved
loop-point-preserved c =
    c.in_ok-push.ensures.items ∙ ap (λ z. z ++ get_or c.args.points.now c.loop-point.point-index 0 ∷ []) c.loop-point.invariant
    ∙ sym (take_more c.args.points.now c.loop-point.point-index 0 c.loop-point-test.true)

pub returns : goal.returns
returns c = rw (take_all c.loop-point.point-index c.args.points.now (omega arith)) at c.loop-point.invariant
