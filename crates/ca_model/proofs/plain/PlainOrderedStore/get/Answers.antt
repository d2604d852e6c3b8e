use Rattle.std.proofs.Common.{◌∙◌, refl, Some, None}
use Rattle.ca_model.specs.Event.{Get}
use Rattle.ca_model.proofs.Alone.{read_met, IsThere, there, absent}
use Rattle.ca_model.proofs.plain.PlainOrderedStore.get.Goals as goal

pub returns-in_default-clause-got : goal.returns-in_default-clause-got
returns-in_default-clause-got c =
    let m = c.self.inside.objects.pairs in
    let none = absent c.self.inside.keypos m c.args.key.now c.find.result c.in_default.field-0 c.self.invariant.ordered c.find.ensures.bound
    c.find.ensures.position c.in_default.is in
    (read_met c.self.inside.keypos m _ _ c.args.self.now (Get c.args.key.now None) c.self.view_is c.self.invariant.ordered refl none, c.clear.ensures)

found : (c : goal.After-copy-arg-1) → IsThere c.self.inside.keypos c.self.inside.objects.pairs c.args.key.now c.in-Ok.at c.object.result.now
found c = there _ _ _ c.find.result _ _ c.self.invariant.ordered c.find.ensures.bound c.find.ensures.position c.in-Ok.is c.object.ensures

pub copy-requires : goal.copy-requires
copy-requires c = (found c).pair.short

pub returns-clause-got : goal.returns-clause-got
returns-clause-got c =
    let m = c.self.inside.objects.pairs in
    let h = there c.self.inside.keypos m c.args.key.now c.find.result c.in-Ok.at c.copy.new.into.items c.self.invariant.ordered c.find.ensures.bound
    c.find.ensures.position c.in-Ok.is (c.copy.ensures ∙ c.object.ensures) in
    read_met c.self.inside.keypos m _ _ c.args.self.now (Get c.args.key.now (Some c.copy.new.into.items)) c.self.view_is c.self.invariant.ordered refl h.found
