use Rattle.ca_model.specs.Edges.{Excluded}
use Rattle.ca_table.proofs.Walked.{proper_key, above_object, next_lacks, next_done, next_ends}
use Rattle.ca_table.proofs.table.Table.next.Goals as goal

pub above-requires-clause-edge : goal.above-requires-clause-edge
above-requires-clause-edge g c = proper_key c.args.key.now _ _ c.in_default.ensures.1 c.as_slice.ensures.value

pub key_of-requires : goal.key_of-requires
key_of-requires g c =
    let old = g.S.OrderedStore.knows c.args.self.now in
    above_object old _ _ c.keypos-keypos.ensures.value c.keypos-keypos.ensures.positive _ _ (Excluded c.as_slice.result.now)
    c.in-Ok-true.field-0-test c.in-Ok-true.ensures.found

pub returns-in_default-key_of-clause-comes : goal.returns-in_default-key_of-clause-comes
returns-in_default-key_of-clause-comes g c =
    next_lacks (g.S.OrderedStore.knows c.args.self.now) _ _ c.keypos-keypos.ensures.value c.keypos-keypos.ensures.positive _ _ c.args.key.now _ _
    c.in_default.ensures.1 c.as_slice.ensures.value c.in-Ok-true.field-0-test c.in-Ok-true.ensures.found

pub returns-in-Ok-true-clause-comes : goal.returns-in-Ok-true-clause-comes
returns-in-Ok-true-clause-comes g c =
    next_done (g.S.OrderedStore.knows c.args.self.now) _ _ c.keypos-keypos.ensures.value c.keypos-keypos.ensures.positive _ _ c.args.key.now _ _
    c.in_default.ensures.1 c.as_slice.ensures.value c.in-Ok.found c.in-Ok-true.field-0-test c.in-Ok-true.ensures.found c.in-Ok.ensures

pub returns-in-Ok-false-clause-comes : goal.returns-in-Ok-false-clause-comes
returns-in-Ok-false-clause-comes g c =
    next_ends (g.S.OrderedStore.knows c.args.self.now) _ _ c.keypos-keypos.ensures.value c.keypos-keypos.ensures.positive _ _ c.args.key.now _ _
    c.in_default.ensures.1 c.as_slice.ensures.value c.in-Ok-false.field-0-test c.in-Ok-false.ensures.found
