use Rattle.std.proofs.Common.{rules, ◌≡◌, List, ap, sym, ◌∙◌}
use Rattle.std.specs.Option.{option_map}
use Rattle.ca_term.specs.Updates.{Addition, update_of_counters}
use Rattle.ca_ets.specs.Asked.{operations_in}
use Rattle.ca_ets.specs.Command.{Continuation, response_of}
use Rattle.ca_ets.specs.OrderedMap.{IsTable}
use Rattle.ca_ets.specs.Step.{reply_of, step_of_update_counter, with_map}
use Rattle.ca_ets.specs.Update.{operations_of}
use Rattle.ca_ets.proofs.Changes.{counters_exit}
use Rattle.ca_ets.proofs.table.ListTable.update_counter.Goals as goal
use Rattle.ca_ets.proofs.table.ListTable.update_counter.Goals.{Joined-operations-4}

leaves : (c : Joined-operations-4) → IsTable c.self.inside.keypos c.replace.new.objects.items
    × ((k : Continuation) → step_of_update_counter c.args.self.now.keypos c.args.self.now.objects k c.args.k.now (operations_of
    c.args.self.now.keypos c.args.op.now)
    ≡ with_map c.replace.new.objects.items k (response_of c.in_ok-reply-in-Ok.reply))
leaves c =
    counters_exit c.self.inside.keypos c.self.inside.objects.items c.args.self.now c.self.view_is c.self.invariant.keypos c.self.invariant.objects
    c.args.k.now c.in-Ok-At.at
    c.in-Ok-At.field-0 c.in-Ok-At.ensures c.in-Ok-At.field-0-is c.index.result.now (search rules) c.replace.new.objects.items c.args.op.now
    (operations_in c.in-Some.operations)
    c.in-Ok.object c.in-Ok.values.items (response_of c.in_ok-reply-in-Ok.reply) (sym c.in_ok-operations.ensures.asked ∙ ap (option_map operations_in) c.in-Some.is)
    (ap (λ (x : List Addition). update_of_counters c.self.inside.keypos c.index.result.now x) (sym c.as_slice.ensures) ∙ c.in-Ok.ensures)
    (c.in_ok-reply-in-Ok.ensures.reply ∙ ap (reply_of (operations_in c.in-Some.operations)) c.as_slice-in-Ok.ensures.value) c.replace.ensures

pub invariant_of-self : goal.invariant_of-self
invariant_of-self c = record { keypos = c.self.invariant.keypos; objects = (leaves c).0 }

pub returns-in-Ok-clause-step : goal.returns-in-Ok-clause-step
returns-in-Ok-clause-step c = (leaves c).1
