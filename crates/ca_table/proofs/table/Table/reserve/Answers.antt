use Rattle.std.proofs.Common.{refl, subst}
use Rattle.ca_table.specs.Made.{Reserves}
use Rattle.ca_table.proofs.Making.{read_inside}
use Rattle.ca_table.proofs.table.Table.reserve.Goals as goal

pub returns-clause-read : goal.returns-clause-read
returns-clause-read g c = read_inside g.S.OrderedStore.promises Reserves _ _ _ c.self.view_is refl c.reserve.ensures.promised

pub returns-clause-promised : goal.returns-clause-promised
returns-clause-promised g c =
    subst (λ s. g.S.OrderedStore.promises.reserve s c.reserve.new.self) c.self.view_is c.reserve.ensures.promised
