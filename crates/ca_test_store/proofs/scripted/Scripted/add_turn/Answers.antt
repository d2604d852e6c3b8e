use Rattle.std.proofs.Common.{ℕ, sym, ap, subst}
use Rattle.ca_test_store.specs.Script.{ScriptedStore, IsProperTurn}
use Rattle.ca_test_store.proofs.Adding.{added}
use Rattle.ca_test_store.proofs.scripted.Scripted.add_turn.Goals as goal

pub invariant_of-self-2 : goal.invariant_of-self-2
invariant_of-self-2 c =
    added c.self.inside.objects c.add_rooms.new.objects c.add_rooms-2.new.objects c.self.inside.turns.items c.push_back.new.self.items c.args.turn
    c.before-2.result.now c.after.result.now c.self.inside.tally c.self.inside.spare c.self.inside.made c.in-Some.made
    c.self.inside.waiting.items c.self.invariant
    (subst (λ (n : ℕ). IsProperTurn n c.args.turn) (sym (ap (λ (s : ScriptedStore). s.known.keypos) c.self.view_is)) c.requires)
    c.add_rooms.ensures.stays c.in-Ok.ensures.room c.before-2.ensures c.add_rooms-2.ensures.stays c.in-Ok-add_rooms.ensures.room c.after.ensures
    c.in-Ok-push_back.ensures.items c.in-Some.ensures
