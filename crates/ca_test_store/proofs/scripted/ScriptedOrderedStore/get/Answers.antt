use Rattle.ca_model.specs.Event.{Event}
use Rattle.ca_model.specs.Known.{Meets}
use Rattle.ca_test_store.specs.declared.refusal.Call.TheVariants as call
use Rattle.ca_test_store.specs.Inner.{Answers}
use Rattle.ca_test_store.specs.ScriptedView.{store_with}
use Rattle.ca_test_store.proofs.Playing.{plays_met}
use Rattle.ca_test_store.proofs.Events.{got, as_got}
use Rattle.ca_test_store.proofs.scripted.ScriptedOrderedStore.get.Goals as goal

pub returns-clause-got : goal.returns-clause-got
returns-clause-got c =
    let b = store_with c.make.new.objects c.self.inside.turns.items c.self.inside.tally c.self.inside.spare c.self.inside.waiting.items in
    let come : (event : Event) → Answers c.self.inside.objects c.get-found.new.objects 0 event → Meets c.args.self.now.known b.known event =
    λ event answers. plays_met c.args.self.now c.begin.new.self c.self.inside.objects c.self.inside.turns.items c.self.inside.tally c.self.inside.spare
    call.Get c.in-Ok.turn c.self.inside.waiting.items c.self.view_is c.in-Ok.ensures.begins c.self.invariant.closed c.get-found.new.objects
    c.make.new.objects c.self.inside.spare 0 c.after.result.now c.after.ensures event answers c.make.ensures in
    as_got c.args.self.now.known b.known c.args.key.now c.get-found.result c.get-found.new.into.items
    (got (Answers c.self.inside.objects c.get-found.new.objects 0) (Meets c.args.self.now.known b.known) come
    c.args.key.now c.get-found.result c.get-found.new.into.items c.get-found.ensures)
