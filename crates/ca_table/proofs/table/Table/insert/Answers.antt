use Rattle.std.proofs.Common.{ℕ, List, None, Some, subst}
use Rattle.ca_ets.specs.declared.command.Cmd.TheVariants.{Insert}
use Rattle.ca_table.proofs.Inserting.{object_pair, insert_done}
use Rattle.ca_table.specs.Made.{HasDeclined, HasEdited}
use Rattle.ca_table.proofs.Making.{was_declined, was_done}
use Rattle.ca_table.proofs.table.Table.insert.Goals as goal

pub put-requires-clause-pair : goal.put-requires-clause-pair
put-requires-clause-pair g c =
    object_pair (g.S.OrderedStore.knows c.args.self.now) _ c.args.object.now _ _ _ c.in-Ok.ensures.code.1 c.reserve.ensures.stays c.object_code.ensures.positive

pub returns-in-Ok-put-clause-comes : goal.returns-in-Ok-put-clause-comes
returns-in-Ok-put-clause-comes g c =
    insert_done (g.S.OrderedStore.knows c.args.self.now) _ c.args.object.now _ _ _ c.in-Ok.ensures.code.1 c.reserve.ensures.stays _ c.in-Ok-put.ensures.put

pub returns-in-Ok-put-clause-made : goal.returns-in-Ok-put-clause-made
returns-in-Ok-put-clause-made g c =
    let promises = g.S.OrderedStore.promises in
    let asked = g.W.Follower.asked in
    was_done g.S.OrderedStore.knows promises asked (Insert c.args.object.now) c.args.self.now c.reserve.new.self c.put.new.self _
    c.reserve.ensures.promised
    (subst (λ (key : List ℕ). HasEdited promises asked (Some key) None c.reserve.new.self c.put.new.self) c.in-Ok.ensures.code.1.key_is
    c.in-Ok-put.ensures.edited) tt

pub returns-in-Err-put-clause-made : goal.returns-in-Err-put-clause-made
returns-in-Err-put-clause-made g c =
    let promises = g.S.OrderedStore.promises in
    let asked = g.W.Follower.asked in
    was_declined g.S.OrderedStore.knows promises asked (Insert c.args.object.now) c.args.self.now c.reserve.new.self c.put.new.self
    c.in-Err-put.refusal c.reserve.ensures.promised
    (subst (λ (key : List ℕ). HasDeclined promises asked (Some key) c.in-Err-put.refusal c.reserve.new.self c.put.new.self)
    c.in-Ok.ensures.code.1.key_is c.in-Err-put.ensures.declined)
