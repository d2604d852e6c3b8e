use Rattle.std.proofs.Common.{refl}
use Rattle.ca_model.specs.Edges.{bound_of}
use Rattle.ca_table.specs.Made.{LooksBelow}
use Rattle.ca_table.proofs.Making.{read_done, read_refused}
use Rattle.ca_table.proofs.table.Table.below.Goals as goal

pub returns-clause-read : goal.returns-clause-read
returns-clause-read g c =
    read_done g.S.OrderedStore.promises (LooksBelow c.args.budget (bound_of c.args.hi) c.below.result c.below.new.into.items)
    _ _ _ c.self.view_is c.below.ensures.promised c.below.result c.done.result refl c.done.ensures

pub returns-clause-declined : goal.returns-clause-declined
returns-clause-declined g c =
    read_refused g.S.OrderedStore.promises (LooksBelow c.args.budget (bound_of c.args.hi) c.below.result c.below.new.into.items)
    _ _ _ c.self.view_is c.below.ensures.promised c.below.result c.done.result refl c.done.ensures c.below.ensures.never_deep
