use Rattle.std.proofs.Common.{refl}
use Rattle.ca_table.specs.Made.{Gets}
use Rattle.ca_table.proofs.Making.{key_inside, read_inside}
use Rattle.ca_table.proofs.table.Table.get.Goals as goal

pub returns-clause-read : goal.returns-clause-read
returns-clause-read g c =
    read_inside g.S.OrderedStore.promises (Gets c.args.budget c.as_slice.result.now c.get.result c.get.new.into.items)
    _ _ _ c.self.view_is refl c.get.ensures.promised

pub returns-clause-by_key : goal.returns-clause-by_key
returns-clause-by_key g c =
    key_inside g.S.OrderedStore.promises (Gets c.args.budget c.as_slice.result.now c.get.result c.get.new.into.items)
    _ _ _ c.self.view_is tt c.get.ensures.promised
