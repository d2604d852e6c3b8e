use Rattle.std.proofs.Common.{ℕ, sym, ◌∙◌, ap, subst}
use Rattle.ca_model.specs.Edges.{bound_of}
use Rattle.ca_model.specs.Function.{MayBeAskedForAll}
use Rattle.ca_test_store.specs.declared.refusal.Call.TheVariants as call
use Rattle.ca_test_store.specs.Script.{ScriptedStore}
use Rattle.ca_test_store.proofs.Playing.{opens_met}
use Rattle.ca_test_store.proofs.scripted.ScriptedOrderedStore.range.Goals as goal

pub range-requires-clause-function : goal.range-requires-clause-function
range-requires-clause-function g c =
    subst (λ (n : ℕ). MayBeAskedForAll g.F.Fn c.args.counts.now n)
    (sym (ap (λ (s : ScriptedStore). s.known.keypos) c.self.view_is ∙ c.in-Ok.ensures.begins.same.keypos)) c.requires.function

pub returns-clause-opens : goal.returns-clause-opens
returns-clause-opens g c =
    opens_met c.args.self.now c.begin.new.self c.self.inside.objects c.self.inside.turns.items c.self.inside.tally c.self.inside.spare call.Other c.in-Ok.turn
    c.self.inside.waiting.items c.self.view_is c.in-Ok.ensures.begins c.self.invariant.closed g.F.Fn c.args.counts.now c.range.new.objects
    c.into_after.result.items (bound_of c.args.lo) (bound_of c.args.hi) c.args.want c.into_after.ensures c.range.ensures
