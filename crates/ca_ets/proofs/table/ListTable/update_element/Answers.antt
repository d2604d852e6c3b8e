use Rattle.std.proofs.Common.{rules, ◌≡◌, true, FitsSigned, ap, sym, ◌∙◌}
use Rattle.std.specs.Int.{w64}
use Rattle.std.proofs.lemmas.Int.{to_z-of_z}
use Rattle.ca_term.specs.Updates.{update_of_element}
use Rattle.ca_ets.specs.Command.{Continuation, Truth}
use Rattle.ca_ets.specs.OrderedMap.{IsTable}
use Rattle.ca_ets.specs.Step.{step_of_update_element, with_map}
use Rattle.ca_ets.specs.Update.{element_of}
use Rattle.ca_ets.proofs.Changes.{element_exit}
use Rattle.ca_ets.proofs.table.ListTable.update_element.Goals as goal
use Rattle.ca_ets.proofs.table.ListTable.update_element.Goals.{After-replace}

leaves : (c : After-replace) → IsTable c.self.inside.keypos c.replace.new.objects.items
    × ((k : Continuation) → step_of_update_element c.args.self.now.keypos c.args.self.now.objects k c.args.k.now (element_of c.args.self.now.keypos
    c.args.op.now)
    ≡ with_map c.replace.new.objects.items k (Truth true))
leaves c =
    let f : FitsSigned w64 c.in-Some.pos = search rules in
    element_exit c.self.inside.keypos c.self.inside.objects.items c.args.self.now c.self.view_is c.self.invariant.keypos c.self.invariant.objects
    c.args.k.now c.in-Ok-At.at
    c.in-Ok-At.field-0 c.in-Ok-At.ensures c.in-Ok-At.field-0-is c.index.result.now (search rules) c.replace.new.objects.items c.args.op.now
    c.in-Some.pos c.in-Some.value.now
    c.in-Ok.object c.in-Some.ensures (ap (λ n. update_of_element c.index.result.now n c.in-Some.value.now) (sym (to_z-of_z w64 c.in-Some.pos f))
    ∙ c.in-Ok.ensures) c.replace.ensures

pub invariant_of-self : goal.invariant_of-self
invariant_of-self c = record { keypos = c.self.invariant.keypos; objects = (leaves c).0 }

pub returns-in-Ok-clause-step : goal.returns-in-Ok-clause-step
returns-in-Ok-clause-step c = (leaves c).1
