use Rattle.std.proofs.Common.{sym, ◌∙◌}
use Rattle.ca_test_store.proofs.Beginning.{was_refused}
use Rattle.ca_test_store.proofs.scripted.Scripted.begin.Goals as goal

pub returns-clause-refuses : goal.returns-clause-refuses
returns-clause-refuses c =
    was_refused c.self.inside.objects c.self.inside.turns.items c.take_turn-turn.new.turns.items c.self.inside.tally c.self.inside.spare c.self.inside.made
    c.args.asked c.args.budget c.take_turn-turn.result c.self.inside.waiting.items c.self.invariant c.take_turn-turn.ensures.turn c.take_turn-turn.ensures.left
    c.in-Some.refusal (sym c.refusal_at.ensures ∙ c.in-Some.is) c.make.new.objects c.make-2.new.objects c.count.new.self c.before-2.result.now
    c.after.result.now c.before-2.ensures c.after.ensures c.make.ensures c.make-2.ensures c.count.ensures c.args.self.now c.self.view_is c.requires
