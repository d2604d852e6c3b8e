use Rattle.std.proofs.Common.{refl}
use Rattle.ca_table.specs.Made.{Asks}
use Rattle.ca_table.proofs.Making.{edited, declined}
use Rattle.ca_table.proofs.table.Table.replace.Goals as goal

pub returns-clause-edited : goal.returns-clause-edited
returns-clause-edited g c =
    edited g.S.OrderedStore.promises g.W.Follower.asked _ (Asks c.args.budget c.replace.result)
    _ _ _ c.self.view_is
    c.replace.ensures.asked refl c.replace.result _ refl c.done.ensures

pub returns-clause-declined : goal.returns-clause-declined
returns-clause-declined g c =
    declined g.S.OrderedStore.promises g.W.Follower.asked _ (Asks c.args.budget c.replace.result)
    _ _ _ c.self.view_is
    c.replace.ensures.asked refl c.replace.result _ refl c.done.ensures
