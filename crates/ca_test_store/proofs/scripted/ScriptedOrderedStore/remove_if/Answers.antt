use Rattle.ca_model.specs.Event.{Event}
use Rattle.ca_model.specs.Known.{Meets}
use Rattle.ca_test_store.specs.declared.refusal.Call.TheVariants as call
use Rattle.ca_test_store.specs.Inner.{Answers}
use Rattle.ca_test_store.specs.ScriptedView.{store_with}
use Rattle.ca_test_store.proofs.Playing.{plays_met}
use Rattle.ca_test_store.proofs.Events.{removed_if, as_removed_if}
use Rattle.ca_test_store.proofs.scripted.ScriptedOrderedStore.remove_if.Goals as goal

pub returns-clause-removed : goal.returns-clause-removed
returns-clause-removed g c =
    let b = store_with c.make.new.objects c.self.inside.turns.items c.self.inside.tally c.self.inside.spare c.self.inside.waiting.items in
    let come : (event : Event) → Answers c.self.inside.objects c.remove_if-changed.new.objects 0 event → Meets c.args.self.now.known b.known event =
    λ event answers. plays_met c.args.self.now c.begin.new.self c.self.inside.objects c.self.inside.turns.items c.self.inside.tally c.self.inside.spare
    call.Other c.in-Ok.turn c.self.inside.waiting.items c.self.view_is c.in-Ok.ensures.begins c.self.invariant.closed c.remove_if-changed.new.objects
    c.make.new.objects c.self.inside.spare 0 c.after.result.now c.after.ensures event answers c.make.ensures in
    as_removed_if c.args.self.now.known b.known c.args.key.now g.F.Fn c.args.f.now c.remove_if-changed.result c.remove_if-changed.new.old.items
    (removed_if (Answers c.self.inside.objects c.remove_if-changed.new.objects 0) (Meets c.args.self.now.known b.known) come
    c.args.key.now g.F.Fn c.args.f.now c.remove_if-changed.result c.remove_if-changed.new.old.items c.remove_if-changed.ensures)
