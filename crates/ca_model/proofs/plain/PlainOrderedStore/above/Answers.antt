use Rattle.std.proofs.Common.{◌∙◌, arith, Some, sym, subst}
use Rattle.ca_model.specs.Edges.{bound_of}
use Rattle.ca_model.specs.Event.{Above}
use Rattle.ca_model.specs.Known.{Known, Meets}
use Rattle.ca_model.proofs.Walking.{short_there, above_none, above_some}
use Rattle.ca_model.proofs.plain.PlainOrderedStore.above.Goals as goal

pub returns-then-at-len-clause-found : goal.returns-then-at-len-clause-found
returns-then-at-len-clause-found c = (
  above_none c.self.inside.keypos c.self.inside.objects.pairs _ _ c.args.self.now c.self.view_is c.self.invariant.ordered _ c.start_of-at.result
      c.start_of-at.ensures.start (c.if-at-len.true ∙ c.len.ensures),
  c.clear.ensures,
)

pub copy-requires : goal.copy-requires
copy-requires c =
    short_there c.self.inside.keypos c.self.inside.objects.pairs c.start_of-at.result c.object.result.now c.self.invariant.ordered
    (omega (arith, c.start_of-at.ensures.range, c.if-at-len.false, c.len.ensures)) c.object.ensures

pub returns-clause-found : goal.returns-clause-found
returns-clause-found c =
    -- where the object stands is no part of what is known
    subst (λ (k : Known). Meets c.args.self.now k (Above (bound_of c.args.lo) (Some c.copy.new.into.items))) (sym c.self.view_is)
    (above_some c.self.inside.keypos c.self.inside.objects.pairs _ _ c.args.self.now c.self.view_is c.self.invariant.ordered _ c.start_of-at.result
    c.copy.new.into.items c.start_of-at.ensures.start (omega (arith, c.start_of-at.ensures.range, c.if-at-len.false, c.len.ensures))
    (c.copy.ensures ∙ c.object.ensures))
