use Rattle.ca_order.specs.CodesView.{terms_of}
use Rattle.ca_text.proofs.Fronts.{begins_on}
use Rattle.ca_cmd.proofs.Coding.{codes_begin, codes_on}
use Rattle.ca_cmd.proofs.answer.put_codes.Goals as goal

pub loop-left-init : goal.loop-left-init
loop-left-init c = record {
  text = codes_begin (terms_of c.args.codes) (terms_of c.in_ok-left.left) c.args.into.now.items c.in_ok-put.ensures.ok c.in_ok-left.ensures.ok;
  front = begins_on c.in_ok-put.ensures.front c.in_ok-left.ensures.front;
}

pub loop-left-preserved : goal.loop-left-preserved
loop-left-preserved c = record {
  text =
      codes_on (terms_of c.loop-left.left) (terms_of c.in_ok-left-2.left) c.loop-left.into.items c.in_ok-put-2.ensures.ok c.in_ok-left-2.ensures.ok
      c.loop-left.invariant.text;
  front = begins_on c.loop-left.invariant.front (begins_on c.in_ok-put-2.ensures.front c.in_ok-left-2.ensures.front);
}
