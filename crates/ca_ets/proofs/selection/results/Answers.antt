use Rattle.ca_ets.proofs.Selected.{chosen_more}
use Rattle.ca_ets.proofs.selection.results.Goals as goal

pub loop-object-preserved : goal.loop-object-preserved
loop-object-preserved c =
    chosen_more c.args.spec.now c.args.objects.now c.loop-object.object-index c.object-item.result c.loop-object.terms.items c.push_result.new.terms.items
    c.loop-object-test.true c.object-item.is c.loop-object.invariant c.in_ok-push_result.ensures.results
