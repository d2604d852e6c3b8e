use Rattle.std.proofs.Common.{refl}
use Rattle.ca_table.specs.Made.{Asks}
use Rattle.ca_table.proofs.Making.{edited, declined}
use Rattle.ca_table.proofs.table.Table.remove_same.Goals as goal

pub returns-clause-edited : goal.returns-clause-edited
returns-clause-edited g c =
    edited g.S.OrderedStore.promises g.W.Follower.asked _ (Asks c.args.budget c.remove_if.result)
    _ _ _ c.self.view_is
    c.remove_if.ensures.asked refl c.remove_if.result _ refl c.done.ensures

pub returns-clause-declined : goal.returns-clause-declined
returns-clause-declined g c =
    declined g.S.OrderedStore.promises g.W.Follower.asked _ (Asks c.args.budget c.remove_if.result)
    _ _ _ c.self.view_is
    c.remove_if.ensures.asked refl c.remove_if.result _ refl c.done.ensures
