use Rattle.std.proofs.Common.{◌-◌, ◌∙◌, Some, arith, sym, subst}
use Rattle.ca_model.specs.Edges.{bound_of}
use Rattle.ca_model.specs.Event.{Below}
use Rattle.ca_model.specs.Known.{Known, Meets}
use Rattle.ca_model.proofs.Walking.{short_there, below_none, below_some}
use Rattle.ca_model.proofs.plain.PlainOrderedStore.below.Goals as goal

pub returns-then-end-eq0-clause-found : goal.returns-then-end-eq0-clause-found
returns-then-end-eq0-clause-found c = (
  below_none c.self.inside.keypos c.self.inside.objects.pairs _ _ c.args.self.now c.self.view_is c.self.invariant.ordered _ c.end_of-end.result
      c.end_of-end.ensures.end c.if-end-eq0.true,
  c.clear.ensures,
)

pub copy-requires : goal.copy-requires
copy-requires c =
    short_there c.self.inside.keypos c.self.inside.objects.pairs (c.end_of-end.result - 1) c.object.result.now c.self.invariant.ordered
    (omega (arith, c.end_of-end.ensures.range, c.if-end-eq0.false)) c.object.ensures

pub returns-clause-found : goal.returns-clause-found
returns-clause-found c =
    -- where the object stands is no part of what is known
    subst (λ (k : Known). Meets c.args.self.now k (Below (bound_of c.args.hi) (Some c.copy.new.into.items))) (sym c.self.view_is)
    (below_some c.self.inside.keypos c.self.inside.objects.pairs _ _ c.args.self.now c.self.view_is c.self.invariant.ordered _ (c.end_of-end.result - 1)
    c.copy.new.into.items c.end_of-end.result (omega (arith, c.if-end-eq0.false)) c.end_of-end.ensures.end
    (omega (arith, c.end_of-end.ensures.range, c.if-end-eq0.false)) (c.copy.ensures ∙ c.object.ensures))
