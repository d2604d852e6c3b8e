use Rattle.std.proofs.Common.{◌-◌}
use Rattle.std.specs.List.{slice_range}
use Rattle.ca_model.specs.Event.{WriteNew}
use Rattle.ca_test_store.specs.declared.refusal.Call.TheVariants as call
use Rattle.ca_test_store.proofs.Playing.{plays_met}
use Rattle.ca_test_store.proofs.scripted.ScriptedOrderedStore.put_new.Goals as goal

pub returns-clause-put : goal.returns-clause-put
returns-clause-put c =
    plays_met c.args.self.now c.begin.new.self c.self.inside.objects c.self.inside.turns.items c.self.inside.tally c.self.inside.spare
    call.Put c.in-Ok.turn c.self.inside.waiting.items c.self.view_is c.in-Ok.ensures.begins c.self.invariant.closed c.put_new-new.new.objects
    c.make.new.objects (c.self.inside.spare - 1) 1 c.after.result.now c.after.ensures
    (WriteNew (slice_range c.args.object.now c.args.key_at c.args.key_end) c.args.object.now c.put_new-new.result) c.put_new-new.ensures c.make.ensures
