use Rattle.std.proofs.Common.{ℕ, List, Some, refl, ap}
use Rattle.std.specs.Prelude.{slice_range}
use Rattle.ca_table.specs.Made.{Puts}
use Rattle.ca_table.proofs.Making.{edited, declined}
use Rattle.ca_table.proofs.table.Table.put.Goals as goal

pub returns-clause-edited : goal.returns-clause-edited
returns-clause-edited g c =
    edited g.S.OrderedStore.promises g.W.Follower.asked _
    (Puts c.args.budget (slice_range c.as_slice.result.now c.args.key.start c.args.key.end, c.as_slice.result.now) c.put.result) _ _ _ c.self.view_is
    c.put.ensures.promised (ap (λ (x : List ℕ). Some (slice_range x c.args.key.start c.args.key.end)) c.as_slice.ensures.value)
    c.put.result _ refl c.done.ensures

pub returns-clause-declined : goal.returns-clause-declined
returns-clause-declined g c =
    declined g.S.OrderedStore.promises g.W.Follower.asked _
    (Puts c.args.budget (slice_range c.as_slice.result.now c.args.key.start c.args.key.end, c.as_slice.result.now) c.put.result) _ _ _ c.self.view_is
    c.put.ensures.promised (ap (λ (x : List ℕ). Some (slice_range x c.args.key.start c.args.key.end)) c.as_slice.ensures.value)
    c.put.result _ refl c.done.ensures
