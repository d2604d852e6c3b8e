use Rattle.ca_model.specs.Edges.{bound_of}
use Rattle.ca_model.specs.Event.{Event}
use Rattle.ca_model.specs.Known.{Meets}
use Rattle.ca_test_store.specs.declared.refusal.Call.TheVariants as call
use Rattle.ca_test_store.specs.Inner.{Answers}
use Rattle.ca_test_store.specs.ScriptedView.{store_with}
use Rattle.ca_test_store.proofs.Playing.{plays_met}
use Rattle.ca_test_store.proofs.Events.{below}
use Rattle.ca_test_store.proofs.scripted.ScriptedOrderedStore.below.Goals as goal

pub returns-clause-found : goal.returns-clause-found
returns-clause-found c =
    let b = store_with c.make.new.objects c.self.inside.turns.items c.self.inside.tally c.self.inside.spare c.self.inside.waiting.items in
    let come : (event : Event) → Answers c.self.inside.objects c.below-found.new.objects 0 event → Meets c.args.self.now.known b.known event =
    λ event answers. plays_met c.args.self.now c.begin.new.self c.self.inside.objects c.self.inside.turns.items c.self.inside.tally c.self.inside.spare
    call.Other c.in-Ok.turn c.self.inside.waiting.items c.self.view_is c.in-Ok.ensures.begins c.self.invariant.closed c.below-found.new.objects
    c.make.new.objects c.self.inside.spare 0 c.after.result.now c.after.ensures event answers c.make.ensures in
    below (Answers c.self.inside.objects c.below-found.new.objects 0) c.args.self.now.known b.known come (bound_of c.args.hi) c.below-found.result
    c.below-found.new.into.items c.below-found.ensures
