use Rattle.std.proofs.Common.{sym, ◌∙◌, ap}
use Rattle.ca_model.specs.StoreMap.{Pair}
use Rattle.ca_model.proofs.Slots.{slot_at}
use Rattle.ca_model.proofs.slab.Slab.object.Goals as goal

pub object-requires : goal.object-requires
object-requires c =
    let s = slot_at _ _ _ c.args.self.now c.args.at c.index.result.now c.self.invariant c.self.view_is c.requires c.index.ensures in
    s.row

pub returns : goal.returns
returns c =
    let s = slot_at _ _ _ c.args.self.now c.args.at c.index.result.now c.self.invariant c.self.view_is c.requires c.index.ensures in
    c.object.ensures ∙ ap (λ (p : Pair). p.1) (sym s.pair)
