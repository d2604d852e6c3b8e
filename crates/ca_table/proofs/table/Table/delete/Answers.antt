use Rattle.std.proofs.Common.{refl}
use Rattle.ca_table.proofs.Keyed.{key_begins, delete_done}
use Rattle.ca_ets.specs.declared.command.Cmd.TheVariants.{Delete}
use Rattle.ca_table.proofs.Making.{declined_first, done_first}
use Rattle.ca_table.proofs.table.Table.delete.Goals as goal

pub remove-requires-clause-key : goal.remove-requires-clause-key
remove-requires-clause-key g c = key_begins c.args.key.now _ c.in_default.ensures.1

pub returns-in-Ok-clause-comes : goal.returns-in-Ok-clause-comes
returns-in-Ok-clause-comes g c =
    let old = g.S.OrderedStore.knows c.args.self.now in
    delete_done c.args.key.now _ c.in_default.ensures.1 old _ _ _ c.in-Ok.ensures.removed

pub returns-in-Ok-clause-made : goal.returns-in-Ok-clause-made
returns-in-Ok-clause-made g c =
    done_first g.S.OrderedStore.knows g.S.OrderedStore.promises g.W.Follower.asked
    (Delete c.args.key.now) c.args.self.now c.remove.new.self _ refl c.in-Ok.ensures.edited tt

pub returns-in-Err-remove-clause-made : goal.returns-in-Err-remove-clause-made
returns-in-Err-remove-clause-made g c =
    declined_first g.S.OrderedStore.knows g.S.OrderedStore.promises g.W.Follower.asked (Delete c.args.key.now) c.args.self.now c.remove.new.self
    c.in-Err-remove.refusal refl c.in-Err-remove.ensures.declined
