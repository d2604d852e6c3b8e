use Rattle.std.proofs.Common.{refl}
use Rattle.ca_table.specs.Made.{Removes}
use Rattle.ca_table.proofs.Making.{edited, declined}
use Rattle.ca_table.proofs.table.Table.remove.Goals as goal

pub returns-clause-edited : goal.returns-clause-edited
returns-clause-edited g c =
    edited g.S.OrderedStore.promises g.W.Follower.asked _ (Removes c.args.budget c.as_slice.result.now c.remove.result c.remove.new.old.items)
    _ _ _ c.self.view_is
    c.remove.ensures.promised refl c.remove.result _ refl c.done.ensures

pub returns-clause-declined : goal.returns-clause-declined
returns-clause-declined g c =
    declined g.S.OrderedStore.promises g.W.Follower.asked _ (Removes c.args.budget c.as_slice.result.now c.remove.result c.remove.new.old.items)
    _ _ _ c.self.view_is
    c.remove.ensures.promised refl c.remove.result _ refl c.done.ensures
