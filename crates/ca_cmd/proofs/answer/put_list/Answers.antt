use Rattle.std.proofs.Common.{refl}
use Rattle.ca_text.proofs.Fronts.{begins_itself, begins_on, on_same}
use Rattle.ca_cmd.proofs.Listing.{list_step, list_end}
use Rattle.ca_cmd.proofs.answer.put_list.Goals as goal

pub returns-in_err-put_term-clause-front : goal.returns-in_err-put_term-clause-front
returns-in_err-put_term-clause-front c = begins_on c.in_ok-put.ensures.front c.in_err-put_term.ensures.front

pub loop-term-init : goal.loop-term-init
loop-term-init c = record { text = refl; front = begins_itself _ }

pub returns-in_err-put-2-clause-front : goal.returns-in_err-put-2-clause-front
returns-in_err-put-2-clause-front c =
    begins_on (begins_on c.in_ok-put.ensures.front c.in_ok-put_term.ensures.front)
    (begins_on c.loop-term.invariant.front c.in_err-put-2.ensures.front)

pub returns-in_err-put_term-2-clause-front : goal.returns-in_err-put_term-2-clause-front
returns-in_err-put_term-2-clause-front c =
    begins_on (begins_on c.in_ok-put.ensures.front c.in_ok-put_term.ensures.front)
    (begins_on c.loop-term.invariant.front (begins_on c.in_ok-put-2.ensures.front c.in_err-put_term-2.ensures.front))

pub loop-term-preserved : goal.loop-term-preserved
loop-term-preserved c = record {
  text =
      list_step c.loop-term.into.items c.in-Some.others.now c.loop-term.term-index c.term-item.result c.loop-term-test.true c.term-item.is c.loop-term.invariant.text
      c.in_ok-put-2.ensures.ok c.in_ok-put_term-2.ensures.ok;
  front = begins_on c.loop-term.invariant.front (begins_on c.in_ok-put-2.ensures.front c.in_ok-put_term-2.ensures.front);
}

pub returns-clause-ok : goal.returns-clause-ok
returns-clause-ok c =
    on_same c.put-3.result c.put-3.new.into.items
    (list_end c.args.into.now.items c.loop-term.into.items c.args.terms.now c.in-Some.others.now c.in-Some.first.now c.loop-term.term-index c.loop-term-test.false
    c.in-Some.ensures.cases.0 c.in_ok-put.ensures.ok c.in_ok-put_term.ensures.ok c.loop-term.invariant.text)
    c.put-3.ensures.ok

pub returns-clause-front : goal.returns-clause-front
returns-clause-front c =
    begins_on (begins_on c.in_ok-put.ensures.front c.in_ok-put_term.ensures.front) (begins_on c.loop-term.invariant.front c.put-3.ensures.front)
