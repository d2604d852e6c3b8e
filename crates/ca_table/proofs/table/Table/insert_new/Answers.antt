use Rattle.std.proofs.Common.{ℕ, List, None, Some, subst}
use Rattle.ca_ets.specs.declared.command.Cmd.TheVariants.{InsertNew}
use Rattle.ca_table.proofs.Inserting.{object_pair, insert_new_done}
use Rattle.ca_table.specs.Made.{HasDeclined, HasEdited}
use Rattle.ca_table.proofs.Making.{was_declined, was_done}
use Rattle.ca_table.proofs.table.Table.insert_new.Goals as goal

pub put_new-requires-clause-pair : goal.put_new-requires-clause-pair
put_new-requires-clause-pair g c =
    let old = g.S.OrderedStore.knows c.args.self.now in
    object_pair old _ c.args.object.now _ _ _ c.in-Ok.ensures.code.1 c.reserve.ensures.stays c.object_code.ensures.positive

pub returns-in-Ok-put_new-clause-comes : goal.returns-in-Ok-put_new-clause-comes
returns-in-Ok-put_new-clause-comes g c =
    let old = g.S.OrderedStore.knows c.args.self.now in
    insert_new_done old _ c.args.object.now _ _ _ c.in-Ok.ensures.code.1 c.reserve.ensures.stays _ c.in-Ok-put_new.new c.in-Ok-put_new.ensures.put

pub returns-in-Ok-put_new-clause-made : goal.returns-in-Ok-put_new-clause-made
returns-in-Ok-put_new-clause-made g c =
    let promises = g.S.OrderedStore.promises in
    let asked = g.W.Follower.asked in
    was_done g.S.OrderedStore.knows promises asked (InsertNew c.args.object.now) c.args.self.now c.reserve.new.self c.put_new.new.self _
    c.reserve.ensures.promised
    (subst (λ (key : List ℕ). HasEdited promises asked (Some key) None c.reserve.new.self c.put_new.new.self) c.in-Ok.ensures.code.1.key_is
    c.in-Ok-put_new.ensures.edited) tt

pub returns-in-Err-put_new-clause-made : goal.returns-in-Err-put_new-clause-made
returns-in-Err-put_new-clause-made g c =
    let promises = g.S.OrderedStore.promises in
    let asked = g.W.Follower.asked in
    was_declined g.S.OrderedStore.knows promises asked (InsertNew c.args.object.now) c.args.self.now c.reserve.new.self c.put_new.new.self
    c.in-Err-put_new.refusal c.reserve.ensures.promised
    (subst (λ (key : List ℕ). HasDeclined promises asked (Some key) c.in-Err-put_new.refusal c.reserve.new.self c.put_new.new.self)
    c.in-Ok.ensures.code.1.key_is c.in-Err-put_new.ensures.declined)
