use Rattle.ca_model.proofs.Walking.{opened}
use Rattle.ca_model.proofs.plain.PlainOrderedStore.range.Goals as goal

pub returns-clause-opens : goal.returns-clause-opens
returns-clause-opens g c =
    opened g.F.Fn c.args.counts.now c.self.inside.keypos c.self.inside.objects.pairs _ _ c.args.self.now _ _ c.args.want c.start_of.result c.end_of-end.result
    c.min-next.result c.self.view_is c.self.invariant.ordered c.start_of.ensures.start c.end_of-end.ensures.end c.min-next.ensures
