use Rattle.std.proofs.Common.{refl}
use Rattle.ca_model.specs.Edges.{bound_of}
use Rattle.ca_table.specs.Made.{LooksAbove}
use Rattle.ca_table.proofs.Making.{read_done, read_refused}
use Rattle.ca_table.proofs.table.Table.above.Goals as goal

pub returns-clause-read : goal.returns-clause-read
returns-clause-read g c =
    read_done g.S.OrderedStore.promises (LooksAbove c.args.budget (bound_of c.args.lo) c.above.result c.above.new.into.items)
    _ _ _ c.self.view_is c.above.ensures.promised c.above.result c.done.result refl c.done.ensures

pub returns-clause-declined : goal.returns-clause-declined
returns-clause-declined g c =
    read_refused g.S.OrderedStore.promises (LooksAbove c.args.budget (bound_of c.args.lo) c.above.result c.above.new.into.items)
    _ _ _ c.self.view_is c.above.ensures.promised c.above.result c.done.result refl c.done.ensures c.above.ensures.never_deep
