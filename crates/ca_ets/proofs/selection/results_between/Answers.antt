use Rattle.ca_ets.proofs.Selected.{between_more}
use Rattle.ca_ets.proofs.selection.results_between.Goals as goal

pub loop-object-preserved : goal.loop-object-preserved
loop-object-preserved c =
    between_more c.args.keypos c.args.spec.now c.args.objects.now c.args.lo.now c.args.hi.now c.loop-object.object-index c.object-item.result
    c.loop-object.terms.items c.push_between.new.terms.items c.loop-object-test.true c.object-item.is c.loop-object.invariant c.in_ok-push_between.ensures
