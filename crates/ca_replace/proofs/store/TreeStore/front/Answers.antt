use Rattle.std.proofs.Common.{ap}
use Rattle.ca_rows.specs.declared.kept.KeptRows.{KeptRows}
use Rattle.ca_replace.proofs.OpenStores.{between_read}
use Rattle.ca_replace.proofs.store.TreeStore.front.Goals as goal

pub invariant_of-self : goal.invariant_of-self
invariant_of-self c = let tree = c.self.inside.tree.now in let pass = c.self.inside.pass in let new = c.front.new.pass in let f = c.front.ensures.frame in
    between_read tree.space.table.shared.table_id tree.space.table.shared.key tree.tuning c.self.inside.last pass.number new.number pass.tally new.tally
    pass.kept.rows new.kept.rows pass.seat new.seat c.self.inside.run f.number f.tally (ap (λ (k : KeptRows). k.rows) f.kept) f.same.0 f.still c.self.invariant
