use Rattle.std.proofs.Common.{sym, ◌∙◌, ap}
use Rattle.ca_model.specs.StoreMap.{Pair}
use Rattle.ca_model.proofs.Slots.{slot_at}
use Rattle.ca_model.proofs.slab.Slab.key.Goals as goal

pub returns : goal.returns
returns c =
    let s = slot_at _ _ _ c.args.self.now c.args.at c.index.result.now c.self.invariant c.self.view_is c.requires c.index.ensures in
    c.key.ensures ∙ ap (λ (p : Pair). p.0) (sym s.pair)
