use Rattle.std.proofs.Common.{◌≡◌, ◌++◌, get_or, append_assoc, ap, ◌∙◌, arith}
use Rattle.std.proofs.lemmas.List.{take_all}
use Rattle.std.specs.Prelude.{codes, decimal}
use Rattle.ca_text.proofs.Fronts.{begins_by, begins_on, flat_step}
use Rattle.ca_text.proofs.binary.put_numbers.Goals as goal

pub returns-in_err-put-clause-front : goal.returns-in_err-put-clause-front
returns-in_err-put-clause-front c = begins_on (begins_by _ _ c.loop-b.invariant) c.in_err-put.ensures.front

pub returns-in_err-put_number-clause-front : goal.returns-in_err-put_number-clause-front
returns-in_err-put_number-clause-front c =
    begins_on (begins_by _ _ c.loop-b.invariant) (begins_on c.in_ok-put.ensures.front c.in_err-put_number.ensures.front)

pub loop-b-preserved : goal.loop-b-preserved
loop-b-preserved c =
    let i = c.loop-b.b-index in
    let n : c.from.result ≡ get_or c.args.bytes.now i 0 = c.from.ensures in
    let all : c.put_number.new.into.items ≡ c.loop-b.into.items ++ (codes "," ++ decimal (get_or c.args.bytes.now i 0)) =
    c.in_ok-put_number.ensures.ok ∙ ap (λ z. z ++ decimal c.from.result) c.in_ok-put.ensures.ok
    ∙ append_assoc c.loop-b.into.items (codes ",") (decimal c.from.result) ∙ ap (λ k. c.loop-b.into.items ++ (codes "," ++ decimal k)) n in
    flat_step (λ k. codes "," ++ decimal k) c.args.into.now.items c.loop-b.into.items c.put_number.new.into.items c.args.bytes.now i 0 c.loop-b-test.true
    c.loop-b.invariant all

pub returns-clause-ok : goal.returns-clause-ok
returns-clause-ok c = rw (take_all c.loop-b.b-index c.args.bytes.now (omega arith)) at c.loop-b.invariant

pub returns-clause-front : goal.returns-clause-front
returns-clause-front c = begins_by _ _ c.loop-b.invariant
