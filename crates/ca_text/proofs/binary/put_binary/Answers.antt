use Rattle.std.proofs.Common.{◌++◌, ap, sym, ◌∙◌, codes}
use Rattle.ca_text.proofs.Fronts.{begins_on, on_same, written_two}
use Rattle.ca_text.proofs.Writing.{shown_text}
use Rattle.ca_text.proofs.binary.put_binary.Goals as goal

pub returns-in_err-put_shown-clause-front : goal.returns-in_err-put_shown-clause-front
returns-in_err-put_shown-clause-front c = begins_on c.in_ok-put.ensures.front c.in_err-put_shown.ensures.front

pub returns-then-is_shown-clause-ok : goal.returns-then-is_shown-clause-ok
returns-then-is_shown-clause-ok c =
    let text = shown_text c.args.bytes.now c.in-Some.others.now c.in-Some.first.now c.in-Some.ensures.cases.0 (sym c.is_shown.ensures ∙ c.if-is_shown.true) in
    on_same c.put-then-is_shown-2.result c.put-then-is_shown-2.new.into.items
    (written_two _ _ _ (codes "\">>") c.in_ok-put.ensures.ok c.in_ok-put_shown.ensures.ok ∙ ap (λ z. c.args.into.now.items ++ z) text)
    c.put-then-is_shown-2.ensures.ok

pub returns-then-is_shown-clause-front : goal.returns-then-is_shown-clause-front
returns-then-is_shown-clause-front c =
    begins_on (begins_on c.in_ok-put.ensures.front c.in_ok-put_shown.ensures.front) c.put-then-is_shown-2.ensures.front

pub returns-in_err-put_number-clause-front : goal.returns-in_err-put_number-clause-front
returns-in_err-put_number-clause-front c = begins_on c.in_ok-put-2.ensures.front c.in_err-put_number.ensures.front

pub returns-in_err-put_numbers-clause-front : goal.returns-in_err-put_numbers-clause-front
returns-in_err-put_numbers-clause-front c =
    begins_on (begins_on c.in_ok-put-2.ensures.front c.in_ok-put_number.ensures.front) c.in_err-put_numbers.ensures.front

pub returns-clause-front : goal.returns-clause-front
returns-clause-front c =
    begins_on (begins_on c.in_ok-put-2.ensures.front c.in_ok-put_number.ensures.front)
    (begins_on c.in_ok-put_numbers.ensures.front c.put-3.ensures.front)
