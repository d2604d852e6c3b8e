use Rattle.std.proofs.Common.{◌++◌, append-nil, arith, sym, ap, ◌∙◌}
use Rattle.std.proofs.lemmas.List.{take_all}
use Rattle.ca_term.specs.Tree.{Tree}
use Rattle.ca_text.proofs.Fronts.{begins_itself, begins_on, flat_step}
use Rattle.ca_cmd.specs.Output.{object_line}
use Rattle.ca_cmd.proofs.output.put_objects.Goals as goal

pub loop-object-init : goal.loop-object-init
loop-object-init c = record { text = sym (append-nil _); front = begins_itself _ }

pub returns-in_err-put_object-clause-front : goal.returns-in_err-put_object-clause-front
returns-in_err-put_object-clause-front c = begins_on c.loop-object.invariant.front c.in_err-put_object.ensures.front

pub loop-object-preserved : goal.loop-object-preserved
loop-object-preserved c = record {
  text =
      flat_step object_line c.args.into.now.items c.loop-object.into.items c.put_object.new.into.items c.args.table.now c.loop-object.object-index
      c.object-item.result c.loop-object-test.true c.loop-object.invariant.text
      (c.in_ok-put_object.ensures.ok ∙ ap (λ (x : Tree). c.loop-object.into.items ++ object_line x) c.object-item.is);
  front = begins_on c.loop-object.invariant.front c.in_ok-put_object.ensures.front;
}

pub returns-clause-ok : goal.returns-clause-ok
returns-clause-ok c = rw (take_all c.loop-object.object-index c.args.table.now (omega arith)) at c.loop-object.invariant.text
