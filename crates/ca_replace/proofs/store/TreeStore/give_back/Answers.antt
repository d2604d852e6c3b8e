use Rattle.std.proofs.Common.{sym, ap, ◌∙◌}
use Rattle.ca_node.specs.TreeView.{TreeView}
use Rattle.ca_replace.specs.Resting.{known_of}
use Rattle.ca_replace.specs.Seen.{store_of}
use Rattle.ca_replace.proofs.OpenStores.{knows_closed}
use Rattle.ca_replace.proofs.StoreCalls.{knows_first, none_open, rests_first, rests_then}
use Rattle.ca_replace.proofs.store.TreeStore.give_back.Goals as goal

pub give_back_kept-requires : goal.give_back_kept-requires
give_back_kept-requires c = record {
  resting = rests_first c.self.inside c.self.view_is c.requires.closed c.self.invariant;
}

pub invariant_of-self : goal.invariant_of-self
invariant_of-self c = rests_then c.self.inside c.self.view_is c.requires.closed
    c.give_back_kept.new.pass c.self.inside.last c.give_back_kept.ensures.frame.resting

pub returns-clause-same : goal.returns-clause-same
returns-clause-same c = let table = c.self.inside.tree.now.space.table.shared.table_id in
    let z = c.self.inside.tree.now.space.table.shared.key in
    let u = c.self.inside.pass.seat.me.0.upper in
    knows_closed (store_of c.self.inside.tree.now c.give_back_kept.new.pass c.self.inside.last) u
    c.self.inside.run (none_open c.self.inside c.self.view_is c.requires.closed)
    ∙ (ap (λ (v : TreeView). known_of table z v) c.give_back_kept.ensures.given.reclaims.same_upper
    ∙ sym (knows_first c.self.inside c.self.view_is c.requires.closed))
