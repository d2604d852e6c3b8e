use Rattle.std.proofs.Common.{◌∙◌, refl}
use Rattle.ca_model.proofs.Walking.{short_there, next_inside, next_there}
use Rattle.ca_model.proofs.plain.PlainOrderedStore.found.Goals as goal

pub copy-requires : goal.copy-requires
copy-requires c =
    short_there c.self.inside.keypos c.self.inside.objects.pairs c.in-Some.run'.next c.object.result.now c.self.invariant.ordered
    (next_inside c.self.inside.keypos c.self.inside.objects.pairs c.self.inside.run c.in-Some.run' _ c.args.self.now c.self.view_is c.in-Some.is
    c.self.invariant.part c.if-run.false) c.object.ensures

pub returns-clause-handed_out : goal.returns-clause-handed_out
returns-clause-handed_out c = (
  _,
  next_there c.self.inside.keypos c.self.inside.objects.pairs c.self.inside.run c.in-Some.run' _ c.args.self.now c.self.view_is c.in-Some.is
      c.self.invariant.part c.copy.new.into.items c.if-run.false (c.copy.ensures ∙ c.object.ensures),
  refl,
)
